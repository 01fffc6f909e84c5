use Rattle.std.proofs.Common.{◌≡◌, ◌*◌, take}
use Rattle.sha2.specs.Sha256.{digest_bytes}
use Rattle.luks_kdf.specs.LaneWords.{lane}
use Rattle.luks_kdf.proofs.sha1_chains.store_lane.Given as goal

-- the words before number i are written
abbrev pub invariant-words : goal.invariant-words
invariant-words g l = take (4 * l.i) l.out ≡ digest_bytes (lane l.j l.x) l.i
