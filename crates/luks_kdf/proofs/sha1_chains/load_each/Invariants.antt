use Rattle.std.proofs.Common.{◌≡◌, ℕ, ◌+◌, ◌*◌, ◌<◌, length}
use Rattle.sha2.specs.Sha256.{word_at}
use Rattle.luks_kdf.specs.LaneWords.{word}
use Rattle.luks_kdf.proofs.sha1_chains.load_each.Given as goal

-- the words before number j are read
abbrev pub invariant-lanes : goal.invariant-lanes
invariant-lanes g l = (length l.words ≡ g.row.N)
    × ((k : ℕ) → k < l.j → word k l.words ≡ word_at l.digests (20 * k + l.i))
