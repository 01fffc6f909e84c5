use Rattle.std.proofs.Common.{◌≡◌, ◌+◌, length}
use Rattle.luks_aes.specs.Aes.{key_expansion}
use Rattle.luks_aes.specs.RoundKeys.{HasInvMixedKeys}
use Rattle.luks_aes.proofs.batch.round_keys.fill.Given as goal

-- the first n entries have their round keys
abbrev pub invariant-loop-n : goal.invariant-loop-n
invariant-loop-n l = record {
  long : length l.round_keys ≡ 13;
  there : HasInvMixedKeys (key_expansion l.key) l.round_keys (l.n + 1);
}
