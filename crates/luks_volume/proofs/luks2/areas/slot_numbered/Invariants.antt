use Rattle.std.proofs.Common.{◌≡◌, drop}
use Rattle.luks_volume.specs.Ranges2.{slot_numbered}
use Rattle.luks_volume.proofs.luks2.areas.slot_numbered.Given as goal

-- no slot so far has the number
abbrev pub invariant-loop-slot : goal.invariant-loop-slot
invariant-loop-slot l =
    slot_numbered l.number (drop l.slot-index l.slot-items) ≡ slot_numbered l.number l.slot-items
