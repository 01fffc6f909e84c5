use Rattle.std.proofs.Common.{rules, ◌∙◌, ◌≤◌, ◌++◌, [], List, ap, sym, length, append_assoc, arith}
use Rattle.std.specs.List.{cons_option}
use Rattle.std.proofs.lemmas.List.{append-nil}
use Rattle.luks_format.specs.Table.{ascending}
use Rattle.luks_format.proofs.TableLemmas.{ascending_more, ascending_none, some_ascending}
use Rattle.luks_open.specs.Opening.{tried_with}
use Rattle.luks_open.specs.declared.entry.Entry.{Entry}
use Rattle.luks_open.proofs.ordering.push_usable.Goals as goal

pub loop-number-init : goal.loop-number-init
loop-number-init c =
    let f = tried_with c.args.header.now c.args.limits c.args.priority in
    sym (append-nil c.args.entries.now.items)
    ∙ ap (λ (l : List Entry). c.args.entries.now.items ++ l) (sym (ascending_none f))

pub returns-in_err-push_tried-clause-err : goal.returns-in_err-push_tried-clause-err
returns-in_err-push_tried-clause-err c =
    let f = tried_with c.args.header.now c.args.limits c.args.priority in
    let many : 1 ≤ length (ascending f 32) =
    some_ascending f c.loop-number.number 32 c.in_err-push_tried.ensures.err (omega arith) in
    search (rules, many)

pub loop-number-preserved : goal.loop-number-preserved
loop-number-preserved c =
    let f = tried_with c.args.header.now c.args.limits c.args.priority in
    let n = c.loop-number.number in
    let old = c.args.entries.now.items in
    c.in_ok-push_tried.ensures.ok
    ∙ ap (λ (l : List Entry). l ++ cons_option (f n) []) c.loop-number.invariant
    ∙ append_assoc old (ascending f n) (cons_option (f n) [])
    ∙ ap (λ (l : List Entry). old ++ l) (sym (ascending_more f n))
