use Rattle.std.proofs.Common.{◌≡◌, drop}
use Rattle.luks_audit.specs.Weakness.{any_fails}
use Rattle.luks_audit.proofs.weakness.any_fails.Given as goal

-- no weakness before this one fails
abbrev pub invariant-loop-index : goal.invariant-loop-index
invariant-loop-index l = any_fails l.least l.weak ≡ any_fails l.least (drop l.index l.weak)
