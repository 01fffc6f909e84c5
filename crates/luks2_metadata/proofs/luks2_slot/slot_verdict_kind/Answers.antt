use Rattle.std.proofs.Common.{ap, sym, ◌∙◌}
use Rattle.luks_format.specs.declared.slot.VerdictKind.TheVariants.{Usable}
use Rattle.luks2_metadata.proofs.SlotLemmas.{usable_verdict}
use Rattle.luks2_metadata.proofs.luks2_slot.slot_verdict_kind.Goals as goal
use Rattle.luks2_metadata.specs.Slot2.{values_of}
use Rattle.luks2_metadata.specs.declared.luks2_slot.values.SlotValues.{SlotValues}
use Rattle.serde_json.specs.View.{view}

pub returns-in-None : goal.returns-in-None
unfolding values_of
returns-in-None c =
    let is = usable_verdict (view c.args.tree.now) c.args.bounds c.args.limits c.args.number (view c.args.slot.now)
    (cc) in
    ap (λ (values : SlotValues). Usable values.priority) c.slot_values-values.ensures ∙ sym is
