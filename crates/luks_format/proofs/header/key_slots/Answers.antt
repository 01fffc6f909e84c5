use Rattle.std.proofs.Common.{refl}
use Rattle.luks_format.specs.Header1.{key_slots_of}
use Rattle.luks_format.proofs.header.key_slots.Goals as goal

pub returns : goal.returns
unfolding key_slots_of
returns c =
    rw (
      c.key_slot.ensures,
      c.key_slot-2.ensures,
      c.key_slot-3.ensures,
      c.key_slot-4.ensures,
      c.key_slot-5.ensures,
      c.key_slot-6.ensures,
      c.key_slot-7.ensures,
      c.key_slot-8.ensures,
    ) refl
