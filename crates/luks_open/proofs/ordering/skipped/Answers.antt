use Rattle.std.proofs.Common.{◌≡◌, ◌∙◌, ◌∷◌, ◌++◌, [], ℕ, List, Option, Some, None, ap, sym, length, arith}
use Rattle.std.specs.Prelude.{option_map}
use Rattle.luks_format.specs.declared.refusal.SkipReason.{SkipReason}
use Rattle.luks_format.proofs.TableLemmas.{length-ascending, ascending_none, ascending_not, ascending_one}
use Rattle.luks_open.specs.Opening.{skipped_at}
use Rattle.luks_open.proofs.ordering.skipped.Goals as goal
use Rattle.luks_open.proofs.ordering.skipped.Goals.{in-Some, in_default}

beside : ℕ → Option SkipReason → Option (ℕ × SkipReason)
beside number reason = option_map (λ r. (number, r)) reason

pub loop-number-init : goal.loop-number-init
loop-number-init c = c.new-skipped.ensures ∙ sym (ascending_none (skipped_at c.args.header.now c.args.limits))

pub push-requires : goal.push-requires
push-requires c =
    omega (
      arith,
      ap length c.loop-number.invariant,
      length-ascending (skipped_at c.args.header.now c.args.limits) c.loop-number.number,
    )

pub loop-number-preserved : goal.loop-number-preserved
unfolding beside
loop-number-preserved c =
    let f = skipped_at c.args.header.now c.args.limits in
    let n = c.loop-number.number in
    elim c.match-skip_reason.branch [
      | in-Some w ↦
          (let one : f n ≡ Some (n, w.in-Some.reason) = sym c.skip_reason.ensures ∙ ap (beside n) w.in-Some.is in
          rw w.skipped-is (w.push.ensures
          ∙ (ap (λ (l : List (ℕ × SkipReason)). l ++ (n, w.in-Some.reason) ∷ []) c.loop-number.invariant
          ∙ sym (ascending_one f n (n, w.in-Some.reason) one))))
      | in_default w ↦
          (let none : f n ≡ None = sym c.skip_reason.ensures ∙ ap (beside n) w.in_default.is in
          rw w.skipped-is (c.loop-number.invariant ∙ sym (ascending_not f n none)))
    ]
