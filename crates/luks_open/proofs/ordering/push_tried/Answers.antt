use Rattle.std.proofs.Common.{rules, ◌≡◌, ◌∙◌, ◌++◌, [], List, Option, Some, None, IsSome, false, ap, sym}
use Rattle.std.specs.Prelude.{is_some}
use Rattle.std.specs.List.{cons_option}
use Rattle.std.proofs.lemmas.List.{append-nil}
use Rattle.luks_open.specs.Opening.{tried_with}
use Rattle.luks_open.specs.declared.entry.Entry.{Entry}
use Rattle.luks_open.proofs.CallerLemmas.{tried_usable}
use Rattle.luks_open.proofs.ordering.push_tried.Goals as goal

-- a key slot that is not tried adds nothing to the list
nothing_added : (entries : List Entry) (entry : Option Entry) → is_some entry ≡ false
    → entries ≡ entries ++ cons_option entry []
nothing_added entries None none = sym (append-nil entries)
nothing_added entries (Some entry) none = absurd cc

pub returns-then-not-has_priority-clause-ok : goal.returns-then-not-has_priority-clause-ok
returns-then-not-has_priority-clause-ok c =
    nothing_added c.args.entries.now.items
    (tried_with c.args.header.now c.args.limits c.args.priority c.args.number)
    (sym c.has_priority.ensures ∙ c.if-not-has_priority.true)

pub returns-in_err-verdict-clause-err : goal.returns-in_err-verdict-clause-err
returns-in_err-verdict-clause-err c =
    let some : IsSome (tried_with c.args.header.now c.args.limits c.args.priority c.args.number) =
    sym c.has_priority.ensures ∙ c.if-not-has_priority.false in
    search (rules, some)

pub returns-in_err-push-clause-err : goal.returns-in_err-push-clause-err
returns-in_err-push-clause-err c =
    let some : IsSome (tried_with c.args.header.now c.args.limits c.args.priority c.args.number) =
    sym c.has_priority.ensures ∙ c.if-not-has_priority.false in
    search (rules, some)

pub returns-clause-ok : goal.returns-clause-ok
returns-clause-ok c =
    let some : IsSome (tried_with c.args.header.now c.args.limits c.args.priority c.args.number) =
    sym c.has_priority.ensures ∙ c.if-not-has_priority.false in
    let verdict_is = sym c.in_ok-verdict.ensures.value
    ∙ (c.in-Some-Usable.is ∙ ap Some c.in-Some-Usable.field-0-is) in
    let tried = tried_usable c.args.header.now c.args.limits c.args.priority c.args.number c.in-Some-Usable.slot
    verdict_is some in
    c.in_ok-push.ensures.items
    ∙ ap (λ (entry : Option Entry). c.args.entries.now.items ++ cons_option entry []) (sym tried)
