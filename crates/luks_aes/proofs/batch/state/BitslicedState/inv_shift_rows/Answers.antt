use Rattle.std.proofs.Common.{◌∙◌, ℕ, arith}
use Rattle.luks_aes.specs.BitPlanes.{rotated_index}
use Rattle.luks_aes.specs.Words.{GroupHolds}
use Rattle.luks_aes.proofs.WordLemmas.{group_same, one_more_group}
use Rattle.luks_aes.proofs.batch.state.BitslicedState.inv_shift_rows.Goals as goal

pub loop-g-preserved : goal.loop-g-preserved
loop-g-preserved g c =
    let before = c.loop-g.invariant in
    let i = c.loop-g.g in
    let step = c.inv_shift_rows_of.ensures in
    record {
      done = one_more_group
          (λ i x. (y : ℕ → ℕ → ℕ) → GroupHolds y i c.args.self.now → GroupHolds (λ r q. y r (rotated_index r q)) i x)
          i _ _
          (λ k same done y holds. group_same same (done y holds)) step.below before.done
          (λ y holds. step.here y (group_same (before.rest i (omega arith) (omega arith)) holds));
      rest = λ k more inside r low.
          step.above k (omega arith) inside r low ∙ before.rest k (omega arith) inside r low;
    }

pub returns : goal.returns
returns g c = λ y holds. record {
  at = λ i low. c.loop-g.invariant.done i (omega arith) (y i) (holds.at i low);
}
