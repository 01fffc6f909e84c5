use Rattle.std.proofs.Common.{◌≡◌, ◌<◌, ◌*◌, ℕ, drop, false}
use Rattle.luks_audit_run.specs.Magic.{begins_magic}
use Rattle.luks_audit_run.proofs.magic.is_quiet.Given as goal

-- no sector before this one begins with the magic bytes
abbrev pub invariant-loop-sector : goal.invariant-loop-sector
invariant-loop-sector l = (k : ℕ) → k < l.sector → begins_magic (drop (512 * k) l.bytes) ≡ false
