use Rattle.luks_aes.proofs.Bytes.{sbox_entry}
use Rattle.luks_aes.proofs.sbox.Substitution.new.Goals as goal

pub invariant_of-result : goal.invariant_of-result
invariant_of-result c = record { is_sbox = sbox_entry }
