use Rattle.std.proofs.Common.{◌≡◌, ◌%◌}
use Rattle.std.proofs.Math.Nat.{mod-lt}
use Rattle.std.proofs.lemmas.List.{get_or-replicate}
use Rattle.std.specs.Int.Bits.{or_zero_r}
use Rattle.luks_c.proofs.wiping.code_over_zeros.Goals as goal

-- each of the zeros is 0
pub returns : goal.returns
returns c =
    let zero : c.from.result ≡ 0 =
    rw (c.from.ensures, c.requires.wiped)
    (get_or-replicate c.args.len (c.args.code % c.args.len) 0 0 (mod-lt c.args.code c.requires.some)) in
    rw zero (or_zero_r c.args.code)
