use Rattle.std.proofs.lemmas.Grind.{common_steps}
use Rattle.std.proofs.Common.{arith}
use Rattle.luks_format.proofs.FieldLemmas.{take-first_zero}
use Rattle.luks_format.proofs.text.FixedText.new.Goals as goal

pub returns : goal.returns
returns g c = grind (arith, common_steps, take-first_zero)
