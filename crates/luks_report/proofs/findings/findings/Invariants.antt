use Rattle.std.proofs.Common.{◌≡◌, flat_map, take, string_bytes}
use Rattle.luks_report.specs.Findings.{finding_line}
use Rattle.luks_report.proofs.findings.findings.Given as goal

-- the lines of the findings so far
abbrev pub invariant-loop-finding : goal.invariant-loop-finding
invariant-loop-finding l =
    string_bytes l.lines ≡ flat_map finding_line (take l.finding-index l.finding-items)
