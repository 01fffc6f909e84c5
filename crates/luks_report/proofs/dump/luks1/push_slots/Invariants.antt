use Rattle.std.proofs.Common.{◌≡◌, ◌++◌, drop, string_bytes}
use Rattle.luks_report.specs.Dump1.{slot1_lines}
use Rattle.luks_report.proofs.dump.luks1.push_slots.Given as goal

-- the lines so far and those of the remaining key slots are those of all key slots
abbrev pub invariant-loop-number : goal.invariant-loop-number
invariant-loop-number l =
    string_bytes l.lines ++ slot1_lines l.number (drop l.number l.slots) ≡ string_bytes l.initial.lines
    ++ slot1_lines 0 l.slots
