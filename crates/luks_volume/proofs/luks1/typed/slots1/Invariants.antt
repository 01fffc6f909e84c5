use Rattle.std.proofs.Common.{ℕ, ◌<◌, get_or}
use Rattle.luks_volume.specs.Ranges1.{IsTypedSlot1, Slot1}
use Rattle.luks_volume.proofs.luks1.typed.slots1.Given as goal

-- each slot so far has what its types guarantee
abbrev pub invariant-slots : goal.invariant-slots
invariant-slots l = (k : ℕ) (d : Slot1) → k < l.slot-index → IsTypedSlot1 (get_or l.slots k d)
