use Rattle.std.proofs.Common.{rules, ◌≡◌, ℕ, ◌%◌, ◌^◌, ◌∙◌, ap, arith, inl, inr}
use Rattle.std.proofs.lemmas.Bool.{cases_lt}
use Rattle.std.proofs.lemmas.List.{get_or-set_other, get_or-set_same}
use Rattle.luks_kdf.proofs.sha1_chains.load_each.Goals as goal

pub lanes-preserved : goal.lanes-preserved
lanes-preserved g c =
    let words = c.lanes.words in
    let next = c.load_be.result in
    let low = λ (a : ℕ). a % 2 ^ 32 in
    let fits : next % 2 ^ 32 ≡ next = omega arith in (
      search rules,
      λ k below. elim (cases_lt k c.lanes.j) [
        | inl before ↦
            ap low (get_or-set_other words c.lanes.j k next 0 (omega arith)) ∙ c.lanes.invariant.1 k before
        | inr at ↦
            let last : c.lanes.j ≡ k = omega arith in
            rw (← last) (ap low (get_or-set_same words c.lanes.j next 0 (omega arith)) ∙ (fits ∙ c.load_be.ensures))
      ],
    )

pub returns : goal.returns
returns g c = λ j in_lane. c.lanes.invariant.1 j (omega arith)
