use Rattle.luks_audit.specs.Table.{judged_fields}
use Rattle.luks_audit.proofs.table.push_judged.Goals as goal

pub returns : goal.returns
unfolding judged_fields
returns c = simp (
  c.in_ok-push_array.ensures,
  c.in_ok-push_array-2.ensures,
) at c.push_array-3.ensures
