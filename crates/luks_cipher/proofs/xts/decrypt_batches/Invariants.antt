use Rattle.std.proofs.Common.{◌≡◌, ◌-◌, ◌%◌, ◌≤◌, ℕ, List}
use Rattle.luks_aes.specs.RoundKeys.{IsBatchKey}
use Rattle.luks_cipher.specs.Xts.{block_decrypted, data_key, tweak_after}
use Rattle.luks_cipher.proofs.UnitLemmas.{IsProgress}
use Rattle.luks_cipher.proofs.xts.decrypt_batches.Given as goal

-- the tweak is that of the next block, and the blocks before it are done
abbrev pub invariant-batches : goal.invariant-batches
invariant-batches l = record {
  few : l.done ≤ l.blocks;
  whole : (l.blocks - l.done) % 32 ≡ 0;
  next : l.tweak ≡ tweak_after l.fn.first_tweak l.done;
  progress : (key : List ℕ) → IsBatchKey (data_key key) l.keys
      → IsProgress (block_decrypted key) (tweak_after l.fn.first_tweak) l.fn.batches l.batches l.tweak l.done;
}

abbrev pub decreases-batches : goal.decreases-batches
decreases-batches l = l.blocks - l.done
