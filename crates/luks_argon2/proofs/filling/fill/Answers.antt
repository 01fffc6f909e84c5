use Rattle.std.proofs.Common.{◌≡◌, ◌∙◌, add-one, arith, refl}
use Rattle.luks_argon2.specs.Fill.{passes_filled}
use Rattle.luks_argon2.proofs.filling.fill.Goals as goal

pub passes-preserved : goal.passes-preserved
unfolding passes_filled
passes-preserved c = c.fill_pass.ensures ∙ rw (c.passes.invariant, add-one) refl

pub returns : goal.returns
returns c =
    let done : c.passes.pass ≡ c.args.layout.passes = omega arith in
    rw done at c.passes.invariant
