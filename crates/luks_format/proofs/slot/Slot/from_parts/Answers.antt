use Rattle.std.proofs.lemmas.Grind.{common_steps}
use Rattle.std.proofs.Common.{arith}
use Rattle.std.proofs.Common.{◌∙◌, ap, sym}
use Rattle.luks_format.specs.Slot.{slot_from}
use Rattle.luks_format.proofs.MadeLemmas.{slot_from-no, slot_from-yes, slot_of}
use Rattle.luks_format.proofs.slot.Slot.from_parts.Goals as goal

pub returns-then-not-in_range : goal.returns-then-not-in_range
returns-then-not-in_range c =
    grind (arith, common_steps, slot_from-no, c.key_material_len-material_len.ensures, c.in_range.ensures)

pub invariant_of-result : goal.invariant_of-result
invariant_of-result c = grind (arith, common_steps)

pub returns : goal.returns
unfolding slot_of
returns c = sym (slot_from-yes c.args.parts c.in_ok-digest.digest _)
    ∙ ap (slot_from c.args.parts) (sym c.in_ok-digest.was)
