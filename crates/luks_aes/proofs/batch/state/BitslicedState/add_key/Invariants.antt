use Rattle.std.proofs.Common.{◌/◌, ◌<◌, ◌≤◌, ℕ}
use Rattle.luks_aes.specs.Field.{◌⊕◌}
use Rattle.luks_aes.specs.Words.{GroupHolds, GroupsHold, SameGroup}
use Rattle.luks_aes.specs.RoundKeys.{state_of_key}
use Rattle.luks_aes.proofs.batch.state.BitslicedState.add_key.Given as goal

-- the groups below g have the key, and the others are as they were
abbrev pub invariant-loop-g : goal.invariant-loop-g
invariant-loop-g g l = record {
  done : (i : ℕ) → i < l.g → (y z : ℕ → ℕ → ℕ) → GroupHolds y i l.fn.self → GroupsHold (λ g. z) (state_of_key l.key)
      → GroupHolds (λ r q. y r q ⊕ z r q) i l.self;
  rest : (i : ℕ) → l.g ≤ i → i < g.row.WORDS / 4 → SameGroup i l.self l.fn.self;
}
