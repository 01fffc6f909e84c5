use Rattle.std.proofs.Common.{◌∙◌, sym}
use Rattle.luks_format.proofs.ValidationLemmas.{usable_verdict}
use Rattle.luks_format.proofs.validation.slot_verdict_kind.Goals as goal

pub returns-in-None : goal.returns-in-None
returns-in-None c =
    sym (usable_verdict c.args.header.now c.args.limit c.args.slot.now c.in-Enabled.is
    (sym c.reason.ensures ∙ c.in-None.is))
