use Rattle.std.proofs.Common.{◌∙◌, ℕ, arith}
use Rattle.luks_aes.specs.Field.{◌⊕◌}
use Rattle.luks_aes.specs.Words.{GroupHolds, GroupsHold}
use Rattle.luks_aes.specs.RoundKeys.{state_of_key}
use Rattle.luks_aes.proofs.WordLemmas.{group_same, one_more_group}
use Rattle.luks_aes.proofs.batch.state.BitslicedState.add_key.Goals as goal

pub loop-g-preserved : goal.loop-g-preserved
loop-g-preserved g c =
    let before = c.loop-g.invariant in
    let i = c.loop-g.g in
    let step = c.add_key_to.ensures in
    record {
      done = one_more_group
          (λ i x. (y z : ℕ → ℕ → ℕ) → GroupHolds y i c.args.self.now → GroupsHold (λ g. z) (state_of_key c.args.key.now)
          → GroupHolds (λ r q. y r q ⊕ z r q) i x)
          i _ _
          (λ k same done y z holds key. group_same same (done y z holds key)) step.below before.done
          (λ y z holds key. step.here y z (group_same (before.rest i (omega arith) (omega arith)) holds) key);
      rest = λ k more inside r low.
          step.above k (omega arith) inside r low ∙ before.rest k (omega arith) inside r low;
    }

pub returns : goal.returns
returns g c = λ y z holds key. record {
  at = λ i low. c.loop-g.invariant.done i (omega arith) (y i) z (holds.at i low) key;
}
