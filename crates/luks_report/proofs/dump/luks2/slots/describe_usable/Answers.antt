use Rattle.std.proofs.Common.{append_assoc}
use Rattle.luks_report.specs.Dump2.{usable_text}
use Rattle.luks_report.proofs.dump.luks2.slots.describe_usable.Goals as goal

pub returns : goal.returns
unfolding usable_text
returns c = simp (c.in_ok-write.ensures.bytes, c.in_ok-text.ensures.ok, c.in_ok-kdf.ensures, append_assoc)
