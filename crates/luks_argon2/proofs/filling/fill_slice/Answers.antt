use Rattle.std.proofs.Common.{◌≡◌, ◌∙◌, add-one, arith, refl}
use Rattle.luks_argon2.specs.Fill.{lanes_filled}
use Rattle.luks_argon2.proofs.filling.fill_slice.Goals as goal

pub lanes-preserved : goal.lanes-preserved
unfolding lanes_filled
lanes-preserved c = c.fill_segment.ensures ∙ rw (c.lanes.invariant, add-one) refl

pub returns : goal.returns
returns c =
    let done : c.lanes.lane ≡ c.args.layout.lanes = omega arith in
    rw done at c.lanes.invariant
