use Rattle.std.proofs.Common.{arith}
use Rattle.luks_audit_run.proofs.MagicLemmas.{quiet_all}
use Rattle.luks_audit_run.proofs.magic.is_quiet.Goals as goal

pub returns : goal.returns
returns c = λ _.
    quiet_all c.args.bytes.now c.loop-sector.sector (omega (arith, c.div_ceil-sector-end.ensures))
    c.loop-sector.invariant
