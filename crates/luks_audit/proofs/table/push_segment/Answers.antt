use Rattle.luks_audit.specs.Table.{segment_fields}
use Rattle.luks_audit.proofs.table.push_segment.Goals as goal

pub returns : goal.returns
unfolding segment_fields
returns c = simp (
  c.in_ok-push_optional_text.ensures,
  c.in_ok-push_names.ensures,
  c.in_ok-push_optional_text-2.ensures,
  c.in_ok-push_names-2.ensures,
) at c.push_names-3.ensures
