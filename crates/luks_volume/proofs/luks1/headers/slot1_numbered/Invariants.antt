use Rattle.std.proofs.Common.{◌≡◌, drop}
use Rattle.luks_volume.specs.Layout1.{slot1_numbered}
use Rattle.luks_volume.proofs.luks1.headers.slot1_numbered.Given as goal

-- no slot so far has the number
abbrev pub invariant-loop-slot : goal.invariant-loop-slot
invariant-loop-slot l =
    slot1_numbered l.number (drop l.slot-index l.slot-items) ≡ slot1_numbered l.number l.slot-items
