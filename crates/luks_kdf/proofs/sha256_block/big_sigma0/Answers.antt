use Rattle.std.proofs.Common.{refl}
use Rattle.sha2.specs.Sha256.{big_sigma0}
use Rattle.luks_kdf.proofs.LaneLemmas.{lane_rotated, low_xor, xor_of_shifts}
use Rattle.luks_kdf.proofs.sha256_block.big_sigma0.Goals as goal

pub returns : goal.returns
returns c = xor_of_shifts 2 13 22 big_sigma0 (λ a is. low_xor _ _ _ _ _ _ (lane_rotated a 2 30 refl is)
    (lane_rotated a 13 19 refl is) (lane_rotated a 22 10 refl is)) c.args.x c.fits-x.0
