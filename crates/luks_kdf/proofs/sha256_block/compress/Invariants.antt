use Rattle.std.proofs.Common.{ℕ, ◌<◌, ◌*◌, List}
use Rattle.luks_kdf.specs.LaneWords.{AllTwice, IsBlock, IsPairAt, lane}
use Rattle.luks_kdf.proofs.sha256_block.compress.Given as goal

abbrev pub invariant-schedule : goal.invariant-schedule
invariant-schedule g l = (j : ℕ) (b : List ℕ) → j < 2 → AllTwice j l.state → AllTwice j l.words → IsBlock j l.words b
    → IsPairAt j b (lane j l.state) l.w l.v (16 * l.group)
