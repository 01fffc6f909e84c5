use Rattle.std.proofs.Common.{◌≡◌}
use Rattle.luks_audit.specs.Marks.{printed_at}
use Rattle.luks_audit.specs.Numbers.{by_number}
use Rattle.luks_audit.proofs.mark.escape_all.Given as goal

-- what is printed for the bytes so far
abbrev pub invariant-loop-index : goal.invariant-loop-index
invariant-loop-index l = l.made.items ≡ by_number (printed_at l.text) l.index
