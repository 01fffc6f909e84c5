use Rattle.std.proofs.Common.{◌≡◌, ◌-◌}
use Rattle.luks_aes.specs.Aes.{state_after}
use Rattle.luks_aes.specs.Columns.{bytes_of_words}
use Rattle.luks_aes.proofs.cipher.cipher.Given as goal

-- the columns are those of the state after the rounds so far
abbrev pub invariant-loop-round : goal.invariant-loop-round
invariant-loop-round l = bytes_of_words l.state ≡ state_after l.fn.block l.schedule (l.round - 1)
