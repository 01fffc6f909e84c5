use Rattle.std.proofs.Common.{◌≡◌, None, ap, sym, ◌∙◌}
use Rattle.luks2_json.proofs.NumberedLemmas.{none_from_not_some}
use Rattle.luks2_metadata.proofs.SlotLemmas.{IsSmall, small_of}
use Rattle.luks2_metadata.proofs.luks2_slot.slot2_of.Goals as goal
use Rattle.luks2_metadata.specs.Slot2.{reason2_of, slot_parts2_of, values_of}
use Rattle.serde_json.specs.View.{view}

-- there is no reason to skip the slot, so its numbers are small
small : (c : goal.Else-is_some) → IsSmall (slot_parts2_of (view c.args.slot.now))
small c =
    let none : reason2_of c.args.metadata.now c.args.bounds c.args.limits c.args.number (view c.args.slot.now) ≡ None =
    ap (λ tree. reason2_of tree c.args.bounds c.args.limits c.args.number (view c.args.slot.now)) (sym c.tree.ensures)
    ∙ (sym c.reason.ensures ∙ none_from_not_some _ (sym c.is_some.ensures ∙ c.if-is_some.false)) in
    small_of c.args.metadata.now c.args.bounds c.args.limits c.args.number (view c.args.slot.now) none

pub parts-requires-clause-stripes : goal.parts-requires-clause-stripes
unfolding values_of
parts-requires-clause-stripes c = rw c.slot_values-values.ensures (small c).stripes

pub parts-requires-clause-key : goal.parts-requires-clause-key
unfolding values_of
parts-requires-clause-key c = rw c.slot_values-values.ensures (small c).key

pub parts-requires-clause-area_key : goal.parts-requires-clause-area_key
unfolding values_of
parts-requires-clause-area_key c = rw c.slot_values-values.ensures (small c).area_key
