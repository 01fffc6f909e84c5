use Rattle.luks_cipher.proofs.ModeLemmas.{max_mode_key}
use Rattle.luks_c.proofs.open_volume.open_by_key.Goals as goal

pub store-requires : goal.store-requires
store-requires c = max_mode_key _ _ (rw c.in-Some.is at c.compared-code.ensures.segment).1.key_length

-- the key matches, and the segment is that of its header
pub returns-in-Some : goal.returns-in-Some
returns-in-Some c =
    let found = rw c.in-Some.is at c.compared-code.ensures.segment in
    record {
      compares = c.compared-code.ensures.compares;
      opens = λ done. record { segment = c.in-Some.segment; is = found.1; filled = c.store.ensures };
      cleared = λ some. absurd (some found.0);
    }
