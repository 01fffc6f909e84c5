use Rattle.std.proofs.lemmas.Grind.{common_steps}
use Rattle.std.proofs.Common.{arith}
use Rattle.luks_format.proofs.FieldLemmas.{big_number-be64}
use Rattle.luks_format.proofs.field.number64_at.Goals as goal

pub returns : goal.returns
returns c = grind (arith, common_steps, big_number-be64)
