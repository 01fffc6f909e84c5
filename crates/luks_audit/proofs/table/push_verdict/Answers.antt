use Rattle.luks_audit.specs.Table.{verdict_fields}
use Rattle.luks_audit.proofs.table.push_verdict.Goals as goal

pub returns : goal.returns
unfolding verdict_fields
returns c = simp (
  c.in_ok-push_number.ensures,
  c.in_ok-push_text.ensures,
  c.in_ok-push_word.ensures,
  c.in_ok-push.ensures,
  c.from.ensures,
  c.kind_text.ensures,
  c.reason_text.ensures,
  c.is_kind_usable.ensures,
  c.boolean.ensures,
  c.boolean-2.ensures,
) at c.push-2.ensures
