use Rattle.std.proofs.Common.{◌≡◌, ◌-◌, ◌*◌, take}
use Rattle.luks_aes.specs.Aes.{words_after}
use Rattle.luks_aes.proofs.key_expansion.expand.Given as goal

-- the words before number i are those of the schedule
abbrev pub invariant-loop-i : goal.invariant-loop-i
invariant-loop-i l = take (4 * l.i) l.schedule ≡ words_after l.key_words l.key (l.i - l.key_words)
