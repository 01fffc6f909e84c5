use Rattle.luks_audit.specs.Table.{payload_fields}
use Rattle.luks_audit.proofs.table.push_payload.Goals as goal

pub returns : goal.returns
unfolding payload_fields
returns c = simp (
  c.in_ok-push_optional_text.ensures,
  c.in_ok-push_optional_number.ensures,
  c.in_ok-push_optional_number-2.ensures,
  c.in_ok-push_optional_number-3.ensures,
  c.in_ok-push_optional_number-4.ensures,
) at c.push_length.ensures
