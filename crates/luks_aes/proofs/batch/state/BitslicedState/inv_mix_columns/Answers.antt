use Rattle.std.proofs.Common.{◌≡◌, ◌∙◌, ℕ, ◌+◌, ◌<◌, arith, subst, sym}
use Rattle.luks_aes.specs.Mixing.{mixed_and_shifted}
use Rattle.luks_aes.specs.Words.{GroupHolds, GroupsHold}
use Rattle.luks_aes.specs.RoundKeys.{state_of_key}
use Rattle.luks_aes.proofs.WordLemmas.{group_same, one_more_group}
use Rattle.luks_aes.proofs.batch.state.BitslicedState.inv_mix_columns.Goals as goal

pub loop-g-preserved : goal.loop-g-preserved
loop-g-preserved g c =
    let before = c.loop-g.invariant in
    let i = c.loop-g.g in
    let step = c.inv_mix_columns_of-in-loop-g.ensures in
    record {
      done = one_more_group
          (λ i x. (y z : ℕ → ℕ → ℕ) → GroupHolds y i c.args.self.now → GroupsHold (λ g. z) (state_of_key c.args.key.now)
          → GroupHolds (mixed_and_shifted y z) i x)
          i _ _
          (λ k same done y z holds key. group_same same (done y z holds key)) step.below before.done
          (λ y z holds key.
          let at : i + 0 ≡ i = omega arith in
          subst (λ (k : ℕ). GroupHolds (mixed_and_shifted y z) k c.inv_mix_columns_of-in-loop-g.new.self) at
          (step.here 0 y z (omega arith)
          (subst (λ (k : ℕ). GroupHolds y k c.loop-g.self) (sym at)
          (group_same (before.rest i (omega arith) (omega arith)) holds)) key));
      rest = λ k more inside r low.
          step.above k (omega arith) inside r low ∙ before.rest k (omega arith) inside r low;
    }

pub returns-then-this-eq8 : goal.returns-then-this-eq8
returns-then-this-eq8 g c = λ y z holds key. record {
  at = λ i low.
      let at : 0 + i ≡ i = omega arith in
      let inside : i < 2 = omega (arith, low, c.if-this-eq8.true) in
      subst (λ (k : ℕ). GroupHolds (mixed_and_shifted (y i) z) k c.inv_mix_columns_of.new.self) at
      (c.inv_mix_columns_of.ensures.here i (y i) z inside
      (subst (λ (k : ℕ). GroupHolds (y i) k c.args.self.now) (sym at) (holds.at i low)) key);
}

pub returns-after-loop-g : goal.returns-after-loop-g
returns-after-loop-g g c = λ y z holds key. record {
  at = λ i low. c.loop-g.invariant.done i (omega arith) (y i) z (holds.at i low) key;
}
