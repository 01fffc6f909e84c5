use Rattle.std.proofs.Common.{◌≡◌, ◌++◌, flat_map, map, take}
use Rattle.luks_audit.specs.Line.{tabbed_of}
use Rattle.luks_audit.proofs.line.push_cells.Given as goal

-- the columns so far are added
abbrev pub invariant-loop-name : goal.invariant-loop-name
invariant-loop-name l =
    l.line.items
    ≡ l.initial.line.items ++ flat_map (tabbed_of l.tree) (map (λ name. name.now) (take l.name-index l.name-items))
