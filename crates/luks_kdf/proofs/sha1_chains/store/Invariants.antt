use Rattle.std.proofs.Common.{◌≡◌, ℕ, ◌<◌}
use Rattle.sha2.specs.Sha256.{digest_bytes}
use Rattle.luks_kdf.specs.Chains.{digest_at}
use Rattle.luks_kdf.specs.LaneWords.{lane}
use Rattle.luks_kdf.proofs.sha1_chains.store.Given as goal

-- the digests before number j are written
abbrev pub invariant-lanes : goal.invariant-lanes
invariant-lanes g l = (k : ℕ) → k < l.j → digest_at 20 k l.out ≡ digest_bytes (lane k l.x) 5
