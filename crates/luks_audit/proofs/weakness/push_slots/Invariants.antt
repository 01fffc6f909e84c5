use Rattle.std.proofs.Common.{◌≡◌, ◌++◌, flat_map, take}
use Rattle.luks_audit.specs.Weakness.{slot_weaknesses}
use Rattle.luks_audit.proofs.weakness.push_slots.Given as goal

-- the weaknesses so far
abbrev pub invariant-loop-slot : goal.invariant-loop-slot
invariant-loop-slot l =
    l.weak.items ≡ l.initial.weak.items ++ flat_map (slot_weaknesses l.minimum l.tokens) (take l.slot-index l.slots)
