use Rattle.std.proofs.Common.{◌∙◌, sym}
use Rattle.luks_volume_tests.proofs.tests.payload.sealed_both.opened.Goals as goal

pub open-requires-clause-segment : goal.open-requires-clause-segment
open-requires-clause-segment g c = (c.in-Ok.field-0, sym c.segment.ensures ∙ c.in-Ok.is)
