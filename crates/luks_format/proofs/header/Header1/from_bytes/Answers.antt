use Rattle.std.proofs.Common.{refl}
use Rattle.luks_format.specs.Header1.{header1_of}
use Rattle.luks_format.proofs.header.Header1.from_bytes.Goals as goal

pub returns : goal.returns
unfolding header1_of
returns c =
    rw (
      c.text_at.ensures,
      c.text_at-2.ensures,
      c.text_at-3.ensures,
      c.number_at.ensures,
      c.number_at-2.ensures,
      c.bytes_at.ensures,
      c.bytes_at-2.ensures,
      c.number_at-3.ensures,
      c.text_at-4.ensures,
      c.key_slots.ensures,
    ) refl
