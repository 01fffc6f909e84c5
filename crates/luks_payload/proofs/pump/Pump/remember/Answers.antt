use Rattle.std.proofs.Common.{arith}
use Rattle.std.proofs.lemmas.Grind.{common_steps}
use Rattle.luks_payload.proofs.pump.Pump.remember.Goals as goal

pub returns-in-Ok-Sector : goal.returns-in-Ok-Sector
returns-in-Ok-Sector c = grind (arith, common_steps)
