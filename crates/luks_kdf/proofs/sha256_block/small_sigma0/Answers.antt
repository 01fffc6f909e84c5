use Rattle.std.proofs.Common.{◌/◌, ◌%◌, ◌^◌, arith, refl}
use Rattle.sha2.specs.Sha256.{small_sigma0}
use Rattle.luks_kdf.proofs.LaneLemmas.{lane_rotated, low_xor, xor_of_shifts}
use Rattle.luks_kdf.proofs.sha256_block.small_sigma0.Goals as goal

pub returns : goal.returns
returns c = xor_of_shifts 7 18 35 small_sigma0 (λ a is. low_xor _ _ (a / 2 ^ 35) _ _ (a % 2 ^ 32 / 2 ^ 3)
    (lane_rotated a 7 25 refl is) (lane_rotated a 18 14 refl is) (omega (arith, is))) c.args.x c.fits-x.0
