use Rattle.std.proofs.Common.{◌≡◌, ◌∙◌, ◌+◌, ℕ, None, Some, arith, sym}
use Rattle.luks_kdf.specs.Pbkdf2.{capped}
use Rattle.luks_open.specs.Opening.{blocks_of, evaluations_of, slot_key}
use Rattle.luks_open.proofs.TrialLemmas.{all_counted, counted_none, none_before, one_opens, one_unopened}
use Rattle.luks_open.proofs.TrialLemmas.{opens_counted, unopened_counted}
use Rattle.luks_open.proofs.opening.first_opening.Goals as goal

-- a count that was raised is within its range
in_range : (new now cost : ℕ) → new ≡ capped (now + cost) → capped new ≡ capped (now + cost)
in_range new now cost is = omega (arith, is)

exact : (new now cost total : ℕ) → new ≡ capped (now + cost) → capped new ≡ capped total → new ≡ capped total
exact new now cost total is all = omega (arith, is, all)

pub entries-init : goal.entries-init
entries-init g c = record {
  unopened = none_before _ _ _;
  work = counted_none _ _ _ _ _;
  count = omega (arith, c.count-before.ensures, c.count-before.type_inv);
  filled = counted_none _ _ _ _ _;
  derives = c.requires.derives;
}

pub returns-in-Ok-Some-clause-value : goal.returns-in-Ok-Some-clause-value
returns-in-Ok-Some-clause-value g c =
    let some : slot_key c.entry-item.result c.args.image.now c.args.pass.now ≡ Some c.in-Ok-Some.key =
    sym c.in-Ok-Some.ensures.value ∙ c.in-Ok-Some.field-0-is in
    sym (one_opens _ _ _ _ c.entries.invariant.unopened _ c.entries-test.true c.entry-item.is _ some)

pub returns-in-Ok-Some-clause-work : goal.returns-in-Ok-Some-clause-work
returns-in-Ok-Some-clause-work g c =
    let some : slot_key c.entry-item.result c.args.image.now c.args.pass.now ≡ Some c.in-Ok-Some.key =
    sym c.in-Ok-Some.ensures.value ∙ c.in-Ok-Some.field-0-is in
    let new = c.in-Ok-Some.ensures.work in
    exact _ c.entries.work (evaluations_of c.entry-item.result) _ new
    (opens_counted _ _ _ _ c.entries.invariant.unopened _ c.entries-test.true c.entry-item.is evaluations_of _ _ _
    c.entries.invariant.work (in_range _ c.entries.work (evaluations_of c.entry-item.result) new) _ some)

pub returns-in-Ok-Some-clause-filled : goal.returns-in-Ok-Some-clause-filled
returns-in-Ok-Some-clause-filled g c =
    let some : slot_key c.entry-item.result c.args.image.now c.args.pass.now ≡ Some c.in-Ok-Some.key =
    sym c.in-Ok-Some.ensures.value ∙ c.in-Ok-Some.field-0-is in
    opens_counted _ _ _ _ c.entries.invariant.unopened _ c.entries-test.true c.entry-item.is blocks_of _ _ _
    c.entries.invariant.filled c.in-Ok-Some.ensures.filled _ some

pub entries-preserved : goal.entries-preserved
entries-preserved g c =
    let none : slot_key c.entry-item.result c.args.image.now c.args.pass.now ≡ None =
    sym c.in-Ok-None.ensures.value ∙ c.in-Ok-None.field-0-is in
    let new = c.in-Ok-None.ensures.work in
    record {
      unopened = one_unopened _ _ _ _ c.entries.invariant.unopened _ c.entries-test.true c.entry-item.is none;
      work = unopened_counted _ _ _ _ c.entries.invariant.unopened _ c.entries-test.true c.entry-item.is evaluations_of
          _ _ _ c.entries.invariant.work (in_range _ c.entries.work (evaluations_of c.entry-item.result) new) none;
      count = omega (arith, new);
      filled = unopened_counted _ _ _ _ c.entries.invariant.unopened _ c.entries-test.true c.entry-item.is blocks_of
          _ _ _ c.entries.invariant.filled c.in-Ok-None.ensures.filled none;
      derives = λ k d below. c.in-Ok-None.ensures.still _ _ _ (c.entries.invariant.derives k d below);
    }

pub returns-clause-work : goal.returns-clause-work
returns-clause-work g c =
    c.entries.invariant.count
    ∙ all_counted _ _ _ _ c.entries.invariant.unopened evaluations_of _ _ c.entries.invariant.work c.entries-test.false

pub returns-clause-filled : goal.returns-clause-filled
returns-clause-filled g c =
    all_counted _ _ _ _ c.entries.invariant.unopened blocks_of _ _ c.entries.invariant.filled c.entries-test.false
