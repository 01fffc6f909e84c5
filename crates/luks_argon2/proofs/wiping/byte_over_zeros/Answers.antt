use Rattle.std.proofs.lemmas.Grind.{common_steps}
use Rattle.std.proofs.Common.{arith}
use Rattle.std.proofs.Common.{◌≡◌, ◌%◌, slice_index}
use Rattle.std.proofs.Math.Nat.{mod-lt}
use Rattle.std.proofs.lemmas.List.{get_or-replicate}
use Rattle.std.specs.Int.Bits.{or_zero_r}
use Rattle.luks_argon2.proofs.wiping.byte_over_zeros.Goals as goal

-- each of the zeros is 0
pub returns : goal.returns
returns c =
    let zero : slice_index c.args.zeros.now (c.args.index % c.args.len) ≡ 0 =
    grind (arith, common_steps, get_or-replicate, mod-lt) in
    rw zero (or_zero_r c.args.byte)
