use Rattle.std.proofs.Common.{◌≡◌, max, drop}
use Rattle.luks_open.specs.Opening.{key_material_end}
use Rattle.luks_open.proofs.order.key_material_end.Given as goal

-- the later one of the end so far and that of the remaining key slots is the end of all
abbrev pub invariant-loop-entry : goal.invariant-loop-entry
invariant-loop-entry l =
    max l.end (key_material_end (drop l.entry-index l.entry-items)) ≡ key_material_end l.order.entries
