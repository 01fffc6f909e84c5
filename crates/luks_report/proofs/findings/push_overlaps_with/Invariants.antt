use Rattle.std.proofs.Common.{◌≡◌, ◌++◌, flat_map, take}
use Rattle.luks_report.specs.Findings.{overlap}
use Rattle.luks_report.proofs.findings.push_overlaps_with.Given as goal

-- the findings so far
abbrev pub invariant-loop-second : goal.invariant-loop-second
invariant-loop-second l =
    l.found.items ≡ l.initial.found.items ++ flat_map (overlap l.first) (take l.second-index l.rest)
