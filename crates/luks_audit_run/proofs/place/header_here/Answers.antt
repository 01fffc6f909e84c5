use Rattle.std.proofs.Common.{◌∙◌, sym}
use Rattle.luks_audit_run.proofs.MagicLemmas.{quiet_none}
use Rattle.luks_audit_run.proofs.place.header_here.Goals as goal

pub returns-then-not-may_have_header-clause-found : goal.returns-then-not-may_have_header-clause-found
returns-then-not-may_have_header-clause-found c =
    sym (quiet_none c.args.bytes.now (sym c.may_have_header.ensures ∙ c.if-not-may_have_header.true))
