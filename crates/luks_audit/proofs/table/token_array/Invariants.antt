use Rattle.std.proofs.Common.{◌≡◌, map, take}
use Rattle.luks_audit.specs.Table.{token_value}
use Rattle.luks_audit.proofs.table.token_array.Given as goal

-- the objects so far
abbrev pub invariant-loop-row : goal.invariant-loop-row
invariant-loop-row l = l.tokens ≡ map token_value (take l.row-index l.rows)
