use Rattle.std.proofs.Common.{append_assoc}
use Rattle.luks_report.specs.Dump2.{digest_text}
use Rattle.luks_report.proofs.dump.luks2.digests.push_usable.Goals as goal

pub returns : goal.returns
unfolding digest_text
returns c =
    simp append_assoc (simp (
      c.in_ok-push_str.ensures.bytes,
      c.in_ok-push_names.ensures,
      c.in_ok-write.ensures.bytes,
      c.hash_text-hash.ensures,
      c.as_slice.ensures,
      c.as_slice-2.ensures,
      c.as_slice-3.ensures,
      append_assoc,
    ) at c.push_names-2.ensures)
