use Rattle.std.proofs.Common.{◌≡◌, ◌<◌, ◌≤◌, ℕ}
use Rattle.luks_aes.specs.Field.{◌⊕◌}
use Rattle.luks_aes.specs.Aes.{inv_sbox}
use Rattle.luks_aes.specs.BitPlanes.{HoldBytes}
use Rattle.luks_aes.specs.Words.{words_at}
use Rattle.luks_aes.proofs.batch.state.BitslicedState.inv_sub_bytes.Given as goal

-- the words below i are substituted, and the others are as they were
abbrev pub invariant-loop-i : goal.invariant-loop-i
invariant-loop-i g l = record {
  done : (n : ℕ) → n < l.i → (y : ℕ → ℕ) → HoldBytes y (words_at n l.fn.self)
      → HoldBytes (λ q. inv_sbox (y q ⊕ 0x63)) (words_at n l.self);
  rest : (n : ℕ) → l.i ≤ n → words_at n l.self ≡ words_at n l.fn.self;
}
