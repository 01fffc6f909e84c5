use Rattle.std.proofs.Common.{◌≡◌, ◌-◌, ◌≤◌}
use Rattle.luks_aes.specs.Aes.{inv_state_after}
use Rattle.luks_aes.specs.Columns.{bytes_of_words}
use Rattle.luks_aes.proofs.cipher.inv_cipher.Given as goal

-- the columns are those of the state after the inverse rounds so far
abbrev pub invariant-loop-round : goal.invariant-loop-round
invariant-loop-round l =
    (1 ≤ l.round) × (bytes_of_words l.state ≡ inv_state_after l.fn.block l.rounds l.schedule (l.rounds - l.round))
