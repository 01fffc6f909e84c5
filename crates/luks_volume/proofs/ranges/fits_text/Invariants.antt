use Rattle.std.proofs.Common.{◌≡◌, ℕ, ◌<◌, get_or}
use Rattle.luks_volume.proofs.ranges.fits_text.Given as goal

-- no byte so far is zero
abbrev pub invariant-loop-byte : goal.invariant-loop-byte
invariant-loop-byte l = (k : ℕ) → k < l.byte-index → get_or l.text k 0 ≡ 0 → ⊥
