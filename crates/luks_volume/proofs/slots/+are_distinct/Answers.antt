use Rattle.std.proofs.Common.{arith}
use Rattle.std.proofs.lemmas.Grind.{common_steps}
use Rattle.luks_volume.proofs.slots.+are_distinct.Goals as goal

pub returns-then-is_free : goal.returns-then-is_free
returns-then-is_free g t c = grind (arith, common_steps)
