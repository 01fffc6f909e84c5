use Rattle.std.proofs.Common.{◌≡◌, ◌++◌, flat_map, take, string_bytes}
use Rattle.luks_report.specs.Dump2.{digest_line}
use Rattle.luks_report.proofs.dump.luks2.digests.push_all.Given as goal

-- the lines so far
abbrev pub invariant-loop-digest : goal.invariant-loop-digest
invariant-loop-digest l =
    string_bytes l.lines ≡ string_bytes l.initial.lines ++ flat_map digest_line (take l.digest-index l.digests)
