use Rattle.std.proofs.Common.{◌/◌, ◌<◌, ◌≤◌, ℕ}
use Rattle.luks_aes.specs.BitPlanes.{rotated_index}
use Rattle.luks_aes.specs.Words.{GroupHolds, SameGroup}
use Rattle.luks_aes.proofs.batch.state.BitslicedState.inv_shift_rows.Given as goal

-- the groups below g are shifted, and the others are as they were
abbrev pub invariant-loop-g : goal.invariant-loop-g
invariant-loop-g g l = record {
  done : (i : ℕ) → i < l.g → (y : ℕ → ℕ → ℕ) → GroupHolds y i l.fn.self
      → GroupHolds (λ r q. y r (rotated_index r q)) i l.self;
  rest : (i : ℕ) → l.g ≤ i → i < g.row.WORDS / 4 → SameGroup i l.self l.fn.self;
}
