use Rattle.luks_cipher.specs.Xts.{tweak_of, block_decrypted}
use Rattle.luks_cipher.proofs.UnitLemmas.{IsProgress}
use Rattle.luks_cipher.proofs.xts.XtsKey.decrypt_unit.Given as goal

-- the tweak is that of the next block, and the blocks before it are done
abbrev pub invariant-rest : goal.invariant-rest
invariant-rest l = IsProgress (block_decrypted l.self) (tweak_of l.self l.number) l.fn.unit l.unit l.tweak l.j
