use Rattle.std.proofs.Common.{◌≡◌, map, take}
use Rattle.luks_audit.specs.Table.{slot_value}
use Rattle.luks_audit.proofs.table.slot_array.Given as goal

-- the objects so far
abbrev pub invariant-loop-row : goal.invariant-loop-row
invariant-loop-row l = l.slots ≡ map (slot_value l.tokens) (take l.row-index l.rows)
