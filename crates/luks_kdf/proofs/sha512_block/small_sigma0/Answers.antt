use Rattle.std.proofs.Common.{refl}
use Rattle.sha2.specs.Sha512.{small_sigma0}
use Rattle.luks_kdf.proofs.PairLemmas.{pair_sigma}
use Rattle.luks_kdf.proofs.sha512_block.small_sigma0.Goals as goal

pub returns : goal.returns
returns c = pair_sigma 1 8 7 small_sigma0 (λ a. refl) c.args.x c.fits-x.0
