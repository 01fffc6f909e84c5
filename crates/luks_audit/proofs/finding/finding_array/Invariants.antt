use Rattle.std.proofs.Common.{◌≡◌, flat_map, take}
use Rattle.luks_audit.specs.Finding.{wrong}
use Rattle.luks_audit.proofs.finding.finding_array.Given as goal

-- the texts so far
abbrev pub invariant-loop-finding : goal.invariant-loop-finding
invariant-loop-finding l = l.findings ≡ flat_map (wrong l.header) (take l.finding-index l.found)
