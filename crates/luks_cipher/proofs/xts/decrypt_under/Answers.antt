use Rattle.luks_cipher.specs.Xts.{block_decrypted, block_xor, data_key}
use Rattle.luks_cipher.proofs.xts.decrypt_under.Goals as goal

pub returns : goal.returns
unfolding block_decrypted block_xor
returns c key n is low = c.decrypt_batch.ensures (data_key key) n is low
