use Rattle.std.proofs.lemmas.Result.{IfOk-from_err}
use Rattle.luks_audit_run.proofs.PutLemmas.{puts_none}
use Rattle.luks_audit_run.proofs.StartLemmas.{start_audits, unmade, unmade_anyway}
use Rattle.luks_audit_run.proofs.image.audit_start.Goals as goal

pub returns-in_err-made-clause-audits : goal.returns-in_err-made-clause-audits
returns-in_err-made-clause-audits g c =
    let aborted = c.in_err-made.ensures.aborted in
    start_audits c.args.policy c.args.file.now _ _ _ _ _ _ aborted.0 _ _ _ aborted.2.failures
    (λ bytes is. unmade aborted.0 c.args.policy c.args.file.now bytes)
    (unmade_anyway aborted.0 c.args.policy c.args.file.now) (puts_none _ _ _ c.from_residual.ensures.0)
    (IfOk-from_err _ _ c.from_residual.ensures.0)

pub returns-clause-audits : goal.returns-clause-audits
returns-clause-audits g c =
    let audited = c.in_ok-made.ensures.audited in
    start_audits c.args.policy c.args.file.now _ _ _ _ _ _ audited.0 _ _ c.put_line.result audited.2.failures audited.3
    audited.4 c.put_line.ensures.puts c.put_line.ensures.shows
