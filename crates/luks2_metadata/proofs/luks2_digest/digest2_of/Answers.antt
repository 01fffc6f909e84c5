use Rattle.std.proofs.lemmas.Grind.{common_steps}
use Rattle.std.proofs.Common.{arith}
use Rattle.luks2_metadata.proofs.SlotLemmas.{out_of_range, too_many}
use Rattle.luks2_metadata.proofs.luks2_digest.digest2_of.Goals as goal

pub returns-then-iterations-gt-MAX_ITERATION_COUNT : goal.returns-then-iterations-gt-MAX_ITERATION_COUNT
returns-then-iterations-gt-MAX_ITERATION_COUNT c = grind (arith, common_steps, out_of_range, too_many)
