use Rattle.luks_cipher.specs.Xts.{tweak_of, block_encrypted}
use Rattle.luks_cipher.proofs.UnitLemmas.{IsProgress}
use Rattle.luks_cipher.proofs.xts.XtsKey.encrypt_unit.Given as goal

-- the tweak is that of the next block, and the blocks before it are done
abbrev pub invariant-loop-j : goal.invariant-loop-j
invariant-loop-j l = IsProgress (block_encrypted l.self) (tweak_of l.self l.number) l.fn.unit l.unit l.tweak l.j
