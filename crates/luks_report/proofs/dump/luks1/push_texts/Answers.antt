use Rattle.std.proofs.Common.{append_assoc}
use Rattle.luks_report.specs.Dump1.{text1_lines}
use Rattle.luks_report.proofs.dump.luks1.push_texts.Goals as goal

pub returns : goal.returns
unfolding text1_lines
returns c =
    simp append_assoc (simp (
      c.in_ok-push_cipher.ensures,
      c.in_ok-push_text.ensures,
      c.in_ok-push_field.ensures,
      c.as_bytes.ensures,
      c.as_bytes-2.ensures,
      append_assoc,
    ) at c.push_text-2.ensures)
