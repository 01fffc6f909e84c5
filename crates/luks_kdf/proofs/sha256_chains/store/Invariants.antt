use Rattle.std.proofs.Common.{◌≡◌, ◌*◌, take}
use Rattle.sha2.specs.Sha256.{digest_bytes}
use Rattle.luks_kdf.specs.LaneWords.{lane}
use Rattle.luks_kdf.proofs.sha256_chains.store.Given as goal

-- the words before number i are written
abbrev pub invariant-words : goal.invariant-words
invariant-words l = take (4 * l.i) l.out ≡ digest_bytes (lane l.j l.x) l.i
