use Rattle.std.proofs.Common.{◌≡◌, ◌+◌, ◌*◌, ◌<◌, ◌≤◌, ℕ, slice_index}
use Rattle.std.specs.Int.{bit_at}
use Rattle.luks_aes.specs.Words.{words_at}
use Rattle.luks_aes.proofs.batch.state.BitslicedState.transpose.Given as goal

-- the words below i are transposed, and the others are as they were
abbrev pub invariant-loop-i : goal.invariant-loop-i
invariant-loop-i g l = record {
  done : (n j p k : ℕ) → n < l.i → j < 8 → p < 8 → k < 8
      → bit_at (slice_index (words_at n l.self) j) (8 * p + k)
      ≡ bit_at (slice_index (words_at n l.fn.self) k) (8 * p + j);
  rest : (n : ℕ) → l.i ≤ n → words_at n l.self ≡ words_at n l.fn.self;
}
