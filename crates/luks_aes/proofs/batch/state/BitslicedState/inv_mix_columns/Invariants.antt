use Rattle.std.proofs.Common.{◌/◌, ◌<◌, ◌≤◌, ℕ}
use Rattle.luks_aes.specs.Mixing.{mixed_and_shifted}
use Rattle.luks_aes.specs.Words.{GroupHolds, GroupsHold, SameGroup}
use Rattle.luks_aes.specs.RoundKeys.{state_of_key}
use Rattle.luks_aes.proofs.batch.state.BitslicedState.inv_mix_columns.Given as goal

-- the groups below g are mixed, and the others are as they were
abbrev pub invariant-loop-g : goal.invariant-loop-g
invariant-loop-g g l = record {
  done : (i : ℕ) → i < l.g → (y z : ℕ → ℕ → ℕ) → GroupHolds y i l.fn.self → GroupsHold (λ g. z) (state_of_key l.key)
      → GroupHolds (mixed_and_shifted y z) i l.self;
  rest : (i : ℕ) → l.g ≤ i → i < g.row.WORDS / 4 → SameGroup i l.self l.fn.self;
}
