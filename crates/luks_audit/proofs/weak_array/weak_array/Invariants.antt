use Rattle.std.proofs.Common.{◌≡◌, map, take}
use Rattle.luks_audit.specs.Weakness.{weak_value}
use Rattle.luks_audit.proofs.weak_array.weak_array.Given as goal

-- the objects so far
abbrev pub invariant-loop-row : goal.invariant-loop-row
invariant-loop-row l = l.weak ≡ map weak_value (take l.row-index l.rows)
