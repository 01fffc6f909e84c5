use Rattle.luks_aes.specs.Aes.{decrypted}
use Rattle.luks_aes.proofs.ColumnLemmas.{IsState}
use Rattle.luks_cipher.specs.Xts.{block_xor}
use Rattle.luks_cipher.specs.Cbc.{block_before}
use Rattle.luks_cipher.proofs.UnitLemmas.{IsProgress}
use Rattle.luks_cipher.proofs.cbc.decrypt_chain.Given as goal

-- the IV consists of bytes, the blocks so far are done, and their last cipher block is kept
abbrev pub invariant-rest : goal.invariant-rest
invariant-rest l = record {
  iv : IsState l.fn.iv;
  progress : IsProgress (λ before block. block_xor (decrypted l.key block) before) (block_before l.fn.iv l.fn.unit)
      l.fn.unit l.unit l.before l.j;
}
