use Rattle.std.proofs.Common.{◌≡◌, ◌++◌, drop}
use Rattle.luks_report.specs.Findings.{overlaps}
use Rattle.luks_report.proofs.findings.push_overlaps.Given as goal

-- the findings so far and those of the remaining key slots are those of all key slots
abbrev pub invariant-loop-index : goal.invariant-loop-index
invariant-loop-index l =
    l.found.items ++ overlaps (drop l.index l.verdicts) ≡ l.initial.found.items ++ overlaps l.verdicts
