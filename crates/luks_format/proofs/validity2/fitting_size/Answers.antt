use Rattle.std.proofs.lemmas.Grind.{common_steps}
use Rattle.std.proofs.Common.{arith}
use Rattle.std.proofs.Common.{◌∙◌, sym}
use Rattle.luks_format.specs.Choice2.{binary_at}
use Rattle.luks_format.proofs.Valid2Lemmas.{fits_parts, size_range}
use Rattle.luks_format.proofs.validity2.fitting_size.Goals as goal

pub binary_at-requires : goal.binary_at-requires
binary_at-requires c =
    (let is = fits_parts c.args.bytes.now c.args.offset (sym c.fits.ensures ∙ c.if-fits.true) in is.0)

pub returns-then-fits-clause-range : goal.returns-then-fits-clause-range
returns-then-fits-clause-range c =
    let is = fits_parts c.args.bytes.now c.args.offset (sym c.fits.ensures ∙ c.if-fits.true) in
    let range = size_range c.args.offset (binary_at c.args.bytes.now c.args.offset) is.1 in
    rw (c.size_in.ensures, c.binary_at.ensures.value) range

pub returns-then-fits-clause-within : goal.returns-then-fits-clause-within
returns-then-fits-clause-within c = grind (arith, common_steps, fits_parts)
