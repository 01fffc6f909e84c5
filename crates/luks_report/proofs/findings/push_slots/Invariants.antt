use Rattle.std.proofs.Common.{◌≡◌, ◌++◌, flat_map, take}
use Rattle.luks_report.specs.Findings.{slot_findings}
use Rattle.luks_report.proofs.findings.push_slots.Given as goal

-- the findings so far
abbrev pub invariant-loop-verdict : goal.invariant-loop-verdict
invariant-loop-verdict l =
    l.found.items ≡ l.initial.found.items ++ flat_map slot_findings (take l.verdict-index l.verdicts)
