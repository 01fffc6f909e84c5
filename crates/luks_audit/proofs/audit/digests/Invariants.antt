use Rattle.std.proofs.Common.{◌≡◌}
use Rattle.luks_audit.specs.Audit.{digest_rows}
use Rattle.luks_audit.specs.Numbers.{by_number}
use Rattle.luks_audit.proofs.audit.digests.Given as goal

-- what the numbers before this one give
abbrev pub invariant-loop-number : goal.invariant-loop-number
invariant-loop-number l = l.rows.items ≡ by_number (digest_rows l.header) l.number
