use Rattle.std.proofs.Common.{refl}
use Rattle.sha2.specs.Sha512.{sha512}
use Rattle.luks_kdf.proofs.sha512_chains.xor_chain512.Goals as goal

pub returns : goal.returns
unfolding sha512
returns c = c.xor_chain.ensures sha512 (λ m. refl)
