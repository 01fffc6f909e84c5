use Rattle.std.proofs.Common.{◌≡◌, add-one, arith, refl}
use Rattle.luks_argon2.specs.Argon2.{with_first_blocks}
use Rattle.luks_argon2.proofs.first_blocks.write_first_blocks.Goals as goal

pub lanes-preserved : goal.lanes-preserved
unfolding with_first_blocks
lanes-preserved c =
    rw (c.first_block-in-lanes.ensures, c.first_block.ensures, c.lanes.invariant, add-one c.lanes.lane) refl

pub returns : goal.returns
returns c =
    let done : c.lanes.lane ≡ c.args.lanes = omega arith in
    rw done at c.lanes.invariant
