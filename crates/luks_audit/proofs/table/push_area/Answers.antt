use Rattle.luks_audit.specs.Table.{area_fields}
use Rattle.luks_audit.proofs.table.push_area.Goals as goal

pub returns : goal.returns
unfolding area_fields
returns c = simp (
  c.in_ok-push_optional_text.ensures,
  c.in_ok-push_optional_number.ensures,
  c.in_ok-push_optional_text-2.ensures,
  c.in_ok-push_optional_number-2.ensures,
  c.in_ok-push_optional_number-3.ensures,
) at c.push_optional_number-4.ensures
