use Rattle.std.proofs.lemmas.Grind.{common_steps}
use Rattle.std.proofs.Common.{arith}
use Rattle.luks2_metadata.proofs.SegmentLemmas.{segment_none, segment_only}
use Rattle.luks2_metadata.proofs.luks2_segment.the_segment.Goals as goal

pub returns-then-len-eq1 : goal.returns-then-len-eq1
returns-then-len-eq1 c = grind (arith, common_steps, segment_only)

pub returns-else-len-eq1 : goal.returns-else-len-eq1
returns-else-len-eq1 c = grind (arith, common_steps, segment_none)
