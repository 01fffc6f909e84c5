use Rattle.std.proofs.Common.{rules}
use Rattle.luks_args.proofs.planning.plan.Goals as goal

pub returns-in-Some-clause-ok : goal.returns-in-Some-clause-ok
returns-in-Some-clause-ok g c = search rules
