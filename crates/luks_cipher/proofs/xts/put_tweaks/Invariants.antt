use Rattle.std.proofs.Common.{◌≡◌, length}
use Rattle.luks_cipher.specs.Xts.{tweak_after}
use Rattle.luks_cipher.proofs.UnitLemmas.{IsDoneBefore}
use Rattle.luks_cipher.proofs.xts.put_tweaks.Given as goal

-- the tweak of the next block is known, and those before it are written
abbrev pub invariant-loop-n : goal.invariant-loop-n
invariant-loop-n l = record {
  size : length l.last ≡ 16;
  next_tweak : l.last ≡ tweak_after l.fn.tweak l.n;
  done : IsDoneBefore 16 (tweak_after l.fn.tweak) l.fn.tweaks l.tweaks l.n;
}
