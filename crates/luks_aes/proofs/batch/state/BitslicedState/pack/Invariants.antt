use Rattle.std.proofs.Common.{◌≡◌, ℕ, ◌+◌, ◌*◌, ◌/◌, ◌%◌, ◌<◌}
use Rattle.std.specs.Prelude.{slice_index}
use Rattle.std.specs.Int.{bit_at}
use Rattle.luks_aes.specs.Blocks.{masked_byte}
use Rattle.luks_aes.specs.Words.{words_at}
use Rattle.luks_aes.proofs.batch.state.BitslicedState.pack.Given as goal

-- the groups below g are filled in, without the transposition
abbrev pub invariant-loop-g : goal.invariant-loop-g
invariant-loop-g g l = record {
  done : (h r j p k : ℕ) → h < l.g → r < 4 → j < 8 → p < 8 → k < 8
      → bit_at (slice_index (words_at (g.row.WORDS / 4 * r + h) l.self) j) (8 * p + k)
      ≡ bit_at (masked_byte l.batch l.mask (16 * h + j + 8 * (p % 2)) (r + 4 * (p / 2))) k;
}
