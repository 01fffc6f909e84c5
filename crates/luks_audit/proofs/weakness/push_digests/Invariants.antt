use Rattle.std.proofs.Common.{◌≡◌, ◌++◌, flat_map, take}
use Rattle.luks_audit.specs.Weakness.{digest_weaknesses}
use Rattle.luks_audit.proofs.weakness.push_digests.Given as goal

-- the weaknesses so far
abbrev pub invariant-loop-digest : goal.invariant-loop-digest
invariant-loop-digest l =
    l.weak.items ≡ l.initial.weak.items ++ flat_map digest_weaknesses (take l.digest-index l.digests)
