use Rattle.luks_audit_run.proofs.FileLemmas.{file_opened, file_unopened}
use Rattle.luks_audit_run.proofs.run.audit_file.Goals as goal

pub returns-in-Ok-clause-audits : goal.returns-in-Ok-clause-audits
returns-in-Ok-clause-audits g c =
    file_opened c.args.policy c.args.scope c.args.file.now g.H.Image.Source.to_come
    (g.H.Images.stored c.args.host.now c.args.file.now) c.in-Ok.image _ _ _ _ _ _ _ _ c.audit_open-shown.result
    c.in-Ok.ensures.image c.in-Ok.ensures.unread c.in-Ok.ensures.failures c.close.ensures.failures
    c.audit_open-shown.ensures.audits

pub returns-in-Err-clause-audits : goal.returns-in-Err-clause-audits
returns-in-Err-clause-audits g c =
    file_unopened c.args.policy c.args.scope c.args.file.now g.H.Image.Source.to_come
    (g.H.Images.stored c.args.host.now c.args.file.now) c.in-Err.fault _ _ _ _ c.put_unopened.result
    c.in-Err.ensures.image c.in-Err.ensures.failures c.put_unopened.ensures.puts c.put_unopened.ensures.shows
