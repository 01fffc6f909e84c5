use Rattle.std.proofs.Common.{ℕ, ◌*◌, List}
use Rattle.sha2.specs.Sha512.{IsRoundsAt}
use Rattle.luks_kdf.specs.Pairs.{ArePairs, words}
use Rattle.luks_kdf.proofs.sha512_block.compress.Given as goal

abbrev pub invariant-schedule : goal.invariant-schedule
invariant-schedule g l = (b : List ℕ) → ArePairs l.pairs b → IsRoundsAt b l.state (words l.w) l.v (16 * l.group)
