use Rattle.std.proofs.Common.{◌≡◌, ◌∙◌, add-one, arith, refl}
use Rattle.luks_argon2.specs.Fill.{slices_filled}
use Rattle.luks_argon2.proofs.filling.fill_pass.Goals as goal

pub slices-preserved : goal.slices-preserved
unfolding slices_filled
slices-preserved c = c.fill_slice.ensures ∙ rw (c.slices.invariant, add-one) refl

pub returns : goal.returns
returns c =
    let done : c.slices.slice ≡ 4 = omega arith in
    rw done at c.slices.invariant
