use Rattle.std.proofs.lemmas.Grind.{common_steps}
use Rattle.std.proofs.Common.{arith}
use Rattle.luks_format.proofs.FieldLemmas.{big_number-be32}
use Rattle.luks_format.proofs.field.number_at.Goals as goal

pub returns : goal.returns
returns c = grind (arith, common_steps, big_number-be32)
