use Rattle.std.proofs.Common.{refl}
use Rattle.sha2.specs.Sha256.{big_sigma1}
use Rattle.luks_kdf.proofs.LaneLemmas.{lane_rotated, low_xor, xor_of_shifts}
use Rattle.luks_kdf.proofs.sha256_block.big_sigma1.Goals as goal

pub returns : goal.returns
returns c = xor_of_shifts 6 11 25 big_sigma1 (λ a is. low_xor _ _ _ _ _ _ (lane_rotated a 6 26 refl is)
    (lane_rotated a 11 21 refl is) (lane_rotated a 25 7 refl is)) c.args.x c.fits-x.0
