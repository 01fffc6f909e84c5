use Rattle.std.proofs.Common.{rules, arith}
use Rattle.luks_format.specs.Rule.{max_slots}
use Rattle.luks_format.specs.Table.{ascending}
use Rattle.luks_open.specs.Opening.{order_within, tried_with}
use Rattle.luks_open.proofs.CallerLemmas.{some_tried}
use Rattle.luks_open.proofs.ordering.order_all.Goals as goal

pub returns-in_err-push_usable-clause-memory : goal.returns-in_err-push_usable-clause-memory
unfolding order_within
returns-in_err-push_usable-clause-memory c = λ memory.
    let tried = tried_with c.args.header.now c.args.limits in
    some_tried (ascending (tried 2) max_slots) (ascending (tried 1) max_slots) _
    (omega (arith, c.in_err-push_usable.ensures.err))

pub returns-in_err-push_usable-2-clause-memory : goal.returns-in_err-push_usable-2-clause-memory
unfolding order_within
returns-in_err-push_usable-2-clause-memory c = λ memory.
    let tried = tried_with c.args.header.now c.args.limits in
    some_tried (ascending (tried 2) max_slots) (ascending (tried 1) max_slots) _
    (omega (arith, c.in_err-push_usable-2.ensures.err))

pub returns-then-is_empty : goal.returns-then-is_empty
unfolding order_within
returns-then-is_empty c = record { answer = search rules; memory = λ memory. absurd cc }

pub returns : goal.returns
unfolding order_within
returns c = record { answer = search rules; memory = λ memory. absurd cc }
