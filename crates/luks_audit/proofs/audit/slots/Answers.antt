use Rattle.std.proofs.Common.{◌≡◌, ◌∙◌, ap, arith, sym}
use Rattle.luks_audit.proofs.NumberLemmas.{by_number_made, by_number_none}
use Rattle.luks_audit.specs.Audit.{slot_rows}
use Rattle.luks_audit.specs.Numbers.{by_number}
use Rattle.luks_audit.proofs.audit.slots.Goals as goal

pub loop-number-init : goal.loop-number-init
loop-number-init c = c.new-rows.ensures.items ∙ sym (by_number_none (slot_rows c.args.header.now))

pub loop-number-preserved : goal.loop-number-preserved
loop-number-preserved c =
    by_number_made (slot_rows c.args.header.now) c.loop-number.number _ _ c.loop-number.invariant
    c.in_ok-push_slot.ensures

pub returns : goal.returns
returns c =
    let end : c.loop-number.number ≡ 32 = omega arith in
    c.loop-number.invariant ∙ ap (by_number (slot_rows c.args.header.now)) end
