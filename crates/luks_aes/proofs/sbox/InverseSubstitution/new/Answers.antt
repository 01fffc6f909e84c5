use Rattle.luks_aes.proofs.Bytes.{inv_sbox_entry}
use Rattle.luks_aes.proofs.sbox.InverseSubstitution.new.Goals as goal

pub invariant_of-result : goal.invariant_of-result
invariant_of-result c = record { is_inverse = inv_sbox_entry }
