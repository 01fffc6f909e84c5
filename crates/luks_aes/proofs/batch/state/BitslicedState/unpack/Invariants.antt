use Rattle.std.proofs.Common.{◌≡◌, ℕ, ◌+◌, ◌*◌, ◌/◌, ◌%◌, ◌<◌}
use Rattle.std.specs.Prelude.{slice_index}
use Rattle.std.specs.Int.{bit_at}
use Rattle.luks_aes.specs.Bytes.{IsBytes}
use Rattle.luks_aes.specs.Blocks.{masked_byte}
use Rattle.luks_aes.specs.Words.{words_at}
use Rattle.luks_aes.proofs.batch.state.BitslicedState.unpack.Given as goal

-- the batch consists of bytes, and the blocks of the groups below g are written
abbrev pub invariant-loop-g : goal.invariant-loop-g
invariant-loop-g g l = record {
  bytes : IsBytes l.batch;
  done : (h j e i k : ℕ) → h < l.g → j < 8 → e < 2 → i < 16 → k < 8
      → bit_at (masked_byte l.batch l.mask (16 * h + j + 8 * e) i) k
      ≡ bit_at (slice_index (words_at (g.row.WORDS / 4 * (i % 4) + h) l.self) j) (8 * (2 * (i / 4) + e) + k);
}
