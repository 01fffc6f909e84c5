use Rattle.std.proofs.Common.{ℕ, ◌<◌, get_or}
use Rattle.luks_volume.specs.Ranges2.{IsTypedSlot2, Slot2}
use Rattle.luks_volume.proofs.luks2.typed.slots2.Given as goal

-- each slot so far has what its types guarantee
abbrev pub invariant-slots : goal.invariant-slots
invariant-slots l = (k : ℕ) (d : Slot2) → k < l.slot-index → IsTypedSlot2 (get_or l.slots k d)
