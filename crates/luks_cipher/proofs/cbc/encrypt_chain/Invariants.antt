use Rattle.luks_aes.specs.Aes.{encrypted}
use Rattle.luks_aes.proofs.ColumnLemmas.{IsState}
use Rattle.luks_cipher.specs.Xts.{block_xor}
use Rattle.luks_cipher.specs.Cbc.{chained}
use Rattle.luks_cipher.proofs.UnitLemmas.{IsProgress}
use Rattle.luks_cipher.proofs.cbc.encrypt_chain.Given as goal

-- the IV consisted of bytes at first, the blocks so far are done, and the last of them is kept
abbrev pub invariant-loop-j : goal.invariant-loop-j
invariant-loop-j l =
    IsState l.fn.iv
    × IsProgress (λ before block. encrypted l.key (block_xor block before)) (chained l.key l.fn.iv l.fn.unit) l.fn.unit
    l.unit l.before l.j
