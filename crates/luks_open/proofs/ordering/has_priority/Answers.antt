use Rattle.std.proofs.Common.{◌∙◌, Some, ap, sym}
use Rattle.luks_open.proofs.CallerLemmas.{usable_there}
use Rattle.luks_open.proofs.ordering.has_priority.Goals as goal

pub returns-in-Some-Usable : goal.returns-in-Some-Usable
returns-in-Some-Usable c =
    let verdict_is = sym c.verdict_kind.ensures ∙ (c.in-Some-Usable.is ∙ ap Some c.in-Some-Usable.field-0-is) in
    sym (usable_there c.args.header.now c.args.limits c.args.priority c.args.number
    (rw c.if-its-priority.true at verdict_is))
