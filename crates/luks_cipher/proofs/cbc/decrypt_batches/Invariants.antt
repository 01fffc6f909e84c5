use Rattle.std.proofs.Common.{◌≡◌, ◌-◌, ◌*◌, ◌%◌, ◌≤◌, ℕ, List, drop}
use Rattle.luks_aes.specs.Aes.{decrypted}
use Rattle.luks_aes.specs.RoundKeys.{IsBatchKey}
use Rattle.luks_cipher.specs.Xts.{block_xor}
use Rattle.luks_cipher.specs.Cbc.{block_before}
use Rattle.luks_cipher.proofs.UnitLemmas.{IsProgress}
use Rattle.luks_cipher.proofs.cbc.decrypt_batches.Given as goal

-- the blocks so far are done, and their last cipher block is kept
abbrev pub invariant-batches : goal.invariant-batches
invariant-batches l = record {
  few : l.done ≤ l.blocks;
  whole : (l.blocks - l.done) % 32 ≡ 0;
  left : drop (16 * l.done) l.unit ≡ drop (16 * l.done) l.fn.unit;
  next : l.before ≡ block_before l.fn.iv l.fn.unit l.done;
  progress : (key : List ℕ) → IsBatchKey key l.keys
      → IsProgress (λ before block. block_xor (decrypted key block) before) (block_before l.fn.iv l.fn.unit)
      l.fn.unit l.unit l.before l.done;
}

abbrev pub decreases-batches : goal.decreases-batches
decreases-batches l = l.blocks - l.done
