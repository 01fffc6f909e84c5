use Rattle.luks_audit_run.proofs.PutLemmas.{puts_all, puts_part}
use Rattle.luks_audit_run.proofs.image.put.Goals as goal

pub returns-in-Ok-clause-puts : goal.returns-in-Ok-clause-puts
returns-in-Ok-clause-puts g c = puts_all _ _ _ _ c.in-Ok.ensures.ok

pub returns-in-Err-clause-puts : goal.returns-in-Err-clause-puts
returns-in-Err-clause-puts g c = puts_part _ _ _ _ c.in-Err.ensures.err.1
