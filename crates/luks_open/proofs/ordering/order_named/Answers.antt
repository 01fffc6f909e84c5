use Rattle.std.proofs.Common.{◌∙◌, Some, Ok, ap, sym, inr}
use Rattle.luks_header.specs.SlotVerdicts.{verdict_within}
use Rattle.luks_open.specs.Opening.{order_of_named}
use Rattle.luks_open.proofs.CallerLemmas.{named_tried}
use Rattle.luks_open.proofs.ordering.order_named.Goals as goal

pub returns-in_err-verdict-clause-memory : goal.returns-in_err-verdict-clause-memory
returns-in_err-verdict-clause-memory c = λ memory.
    named_tried c.args.named (verdict_within c.args.header.now c.args.limits c.args.named) c.in_err-verdict.ensures.err

pub returns-in-None-clause-answer : goal.returns-in-None-clause-answer
returns-in-None-clause-answer c =
    inr (ap (order_of_named c.args.named) (sym c.in_ok-verdict.ensures.value ∙ c.in-None.is))

pub returns-in-Some-Disabled-clause-answer : goal.returns-in-Some-Disabled-clause-answer
returns-in-Some-Disabled-clause-answer c =
    inr (ap (order_of_named c.args.named)
    (sym c.in_ok-verdict.ensures.value ∙ (c.in-Some-Disabled.is ∙ ap Some c.in-Some-Disabled.field-0-is)))

pub returns-in-Some-Disabled-clause-memory : goal.returns-in-Some-Disabled-clause-memory
returns-in-Some-Disabled-clause-memory c = λ memory. absurd cc

pub returns-in-Some-Skipped-clause-answer : goal.returns-in-Some-Skipped-clause-answer
returns-in-Some-Skipped-clause-answer c =
    inr (ap (order_of_named c.args.named)
    (sym c.in_ok-verdict.ensures.value ∙ (c.in-Some-Skipped.is ∙ ap Some c.in-Some-Skipped.field-0-is)))

pub returns-in_ok-order_alone-in-Some-Usable-clause-answer : goal.returns-in_ok-order_alone-in-Some-Usable-clause-answer
returns-in_ok-order_alone-in-Some-Usable-clause-answer c =
    ap (order_of_named c.args.named)
    (sym c.in_ok-verdict.ensures.value ∙ (c.in-Some-Usable.is ∙ ap Some c.in-Some-Usable.field-0-is))
    ∙ ap Ok (sym c.in_ok-order_alone-in-Some-Usable.ensures)
