use Rattle.std.proofs.Common.{◌≡◌, ◌∙◌, ap, arith, length, sym}
use Rattle.luks_audit.proofs.NumberLemmas.{by_number_made, by_number_none}
use Rattle.luks_audit.specs.Marks.{marks_escaped, printed_at}
use Rattle.luks_audit.specs.Numbers.{by_number}
use Rattle.luks_audit.proofs.mark.escape_all.Goals as goal

pub loop-index-init : goal.loop-index-init
loop-index-init c = c.new-made.ensures.items ∙ sym (by_number_none (printed_at c.args.text.now))

pub loop-index-preserved : goal.loop-index-preserved
loop-index-preserved c =
    by_number_made (printed_at c.args.text.now) c.loop-index.index _ _ c.loop-index.invariant
    c.in_ok-push_at.ensures

pub returns : goal.returns
unfolding marks_escaped
returns c =
    let end : c.loop-index.index ≡ length c.args.text.now = omega arith in
    c.loop-index.invariant ∙ ap (by_number (printed_at c.args.text.now)) end
