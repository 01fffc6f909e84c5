use Rattle.std.proofs.Common.{refl}
use Rattle.sha2.specs.Sha512.{digest_bytes, sha384}
use Rattle.luks_kdf.proofs.sha512_chains.xor_chain384.Goals as goal

pub returns : goal.returns
unfolding sha384 digest_bytes
returns c = c.xor_chain.ensures sha384 (λ m. refl)
