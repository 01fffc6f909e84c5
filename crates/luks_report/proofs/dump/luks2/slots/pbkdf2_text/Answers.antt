use Rattle.std.proofs.Common.{append_assoc}
use Rattle.luks_report.specs.Dump2.{kdf_text}
use Rattle.luks_report.proofs.dump.luks2.slots.pbkdf2_text.Goals as goal

pub returns : goal.returns
unfolding kdf_text
returns c = simp (c.in_ok-write.ensures.bytes, c.in_ok-text.ensures.ok, c.hash_text-hash.ensures, append_assoc)
