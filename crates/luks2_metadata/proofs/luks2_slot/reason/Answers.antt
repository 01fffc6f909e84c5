use Rattle.luks2_metadata.proofs.SlotLemmas.{material_small}
use Rattle.luks2_metadata.proofs.luks2_slot.reason.Goals as goal
use Rattle.luks2_metadata.specs.Slot2.{slot_parts2_of, values_of}
use Rattle.serde_json.specs.View.{view}

pub is_area_out_of_range-requires-clause-short : goal.is_area_out_of_range-requires-clause-short
unfolding values_of
is_area_out_of_range-requires-clause-short c =
    rw c.requires (material_small c.find_payload-payload.result.mode (slot_parts2_of (view c.args.slot.now)) (cc)).key

pub is_area_out_of_range-requires-clause-few : goal.is_area_out_of_range-requires-clause-few
unfolding values_of
is_area_out_of_range-requires-clause-few c =
    rw c.requires
    (material_small c.find_payload-payload.result.mode (slot_parts2_of (view c.args.slot.now)) (cc)).stripes
