use Rattle.std.proofs.Common.{◌≡◌, ◌++◌, map, take, string_bytes}
use Rattle.luks_report.specs.Dump2.{more_names}
use Rattle.luks_report.proofs.dump.luks2.digests.push_more.Given as goal

-- the names so far
abbrev pub invariant-loop-name : goal.invariant-loop-name
invariant-loop-name l =
    string_bytes l.text
    ≡ string_bytes l.initial.text ++ more_names (map string_bytes (take l.name-index l.names))
