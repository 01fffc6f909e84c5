use Rattle.std.proofs.Common.{◌≡◌, ◌∙◌, ◌++◌, [], ℕ, List, length, sym, ap, arith}
use Rattle.std.specs.List.{cons_option}
use Rattle.luks_format.proofs.TableLemmas.{length-ascending, ascending_more, ascending_none}
use Rattle.luks_format.specs.Table.{ascending}
use Rattle.luks_format.specs.declared.slot.Verdict.{Verdict}
use Rattle.luks_header.specs.SlotVerdicts.{numbered_verdict, verdict_within, verdicts_of, with_number}
use Rattle.luks_header.proofs.header_slots.slots.Goals as goal

pub loop-number-init : goal.loop-number-init
loop-number-init c = c.new-verdicts.ensures.items
    ∙ sym (ascending_none (numbered_verdict c.args.header.now c.args.limit))

pub loop-number-preserved : goal.loop-number-preserved
loop-number-preserved c =
    let f = numbered_verdict c.args.header.now c.args.limit in
    let n = c.loop-number.number in
    c.in_ok-push_verdict.ensures
    ∙ ap (λ (l : List (ℕ × Verdict)). l ++ cons_option (with_number n c.in_ok-verdict.verdict) [])
    c.loop-number.invariant
    ∙ ap (λ verdict. ascending f n ++ cons_option (with_number n verdict) []) (c.in_ok-verdict.ensures.value
    ∙ ap (λ limits. verdict_within c.args.header.now limits n) c.without_argon2.ensures)
    ∙ sym (ascending_more f n)

pub returns-clause-value : goal.returns-clause-value
unfolding verdicts_of
returns-clause-value c =
    let end : c.loop-number.number ≡ 32 = omega arith in
    c.loop-number.invariant ∙ ap (ascending (numbered_verdict c.args.header.now c.args.limit)) end

pub returns-clause-few : goal.returns-clause-few
returns-clause-few c =
    let end : c.loop-number.number ≡ 32 = omega arith in
    let few = length-ascending (numbered_verdict c.args.header.now c.args.limit) c.loop-number.number in
    omega (arith, ap length c.loop-number.invariant, few, c.loop-number.verdicts.ok.0)
