use Rattle.std.proofs.Common.{◌-◌, arith, refl}
use Rattle.std.proofs.lemmas.Simd.{shifts_fit_splat}
use Rattle.luks_kdf.proofs.LaneLemmas.{words_rotated}
use Rattle.luks_kdf.proofs.sha1_block.rotated.Goals as goal

pub overflow_shl-result : goal.overflow_shl-result
overflow_shl-result g c = shifts_fit_splat 32 c.args.x g.row.N c.args.bits c.requires.high

pub overflow_shr-result : goal.overflow_shr-result
overflow_shr-result g c = shifts_fit_splat 32 c.args.x g.row.N (32 - c.args.bits) (omega arith)

pub returns : goal.returns
returns g c =
    words_rotated g.row.N c.args.bits (32 - c.args.bits) c.requires.low c.requires.high refl c.args.x c.fits-x.0
    c.fits-x.1
