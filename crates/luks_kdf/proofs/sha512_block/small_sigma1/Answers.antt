use Rattle.std.proofs.Common.{refl}
use Rattle.sha2.specs.Sha512.{small_sigma1}
use Rattle.luks_kdf.proofs.PairLemmas.{pair_sigma}
use Rattle.luks_kdf.proofs.sha512_block.small_sigma1.Goals as goal

pub returns : goal.returns
returns c = pair_sigma 19 61 6 small_sigma1 (λ a. refl) c.args.x c.fits-x.0
