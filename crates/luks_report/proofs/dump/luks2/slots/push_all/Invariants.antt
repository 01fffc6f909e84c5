use Rattle.std.proofs.Common.{◌≡◌, ◌++◌, flat_map, take, string_bytes}
use Rattle.luks_report.specs.Dump2.{slot2_line}
use Rattle.luks_report.proofs.dump.luks2.slots.push_all.Given as goal

-- the lines so far
abbrev pub invariant-loop-verdict : goal.invariant-loop-verdict
invariant-loop-verdict l =
    string_bytes l.lines ≡ string_bytes l.initial.lines ++ flat_map slot2_line (take l.verdict-index l.verdicts)
