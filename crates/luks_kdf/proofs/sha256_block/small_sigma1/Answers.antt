use Rattle.std.proofs.Common.{◌/◌, ◌%◌, ◌^◌, arith, refl}
use Rattle.sha2.specs.Sha256.{small_sigma1}
use Rattle.luks_kdf.proofs.LaneLemmas.{lane_rotated, low_xor, xor_of_shifts}
use Rattle.luks_kdf.proofs.sha256_block.small_sigma1.Goals as goal

pub returns : goal.returns
returns c = xor_of_shifts 17 19 42 small_sigma1 (λ a is. low_xor _ _ (a / 2 ^ 42) _ _ (a % 2 ^ 32 / 2 ^ 10)
    (lane_rotated a 17 15 refl is) (lane_rotated a 19 13 refl is) (omega (arith, is))) c.args.x c.fits-x.0
