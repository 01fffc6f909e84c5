use Rattle.std.proofs.lemmas.Grind.{common_steps}
use Rattle.std.proofs.Common.{arith}
use Rattle.luks2_metadata.proofs.SegmentLemmas.{empty_viewed, not_array}
use Rattle.luks2_metadata.proofs.luks2_segment.is_empty_array.Goals as goal
use Rattle.serde_json.specs.View.{view}

pub returns-in-Some : goal.returns-in-Some
returns-in-Some c = grind (arith, common_steps, empty_viewed, c.is_empty.ensures, c.in-Some.ensures)

pub returns-in-None : goal.returns-in-None
returns-in-None c = not_array (view c.args.value.now) c.in-None.ensures
