use Rattle.std.proofs.Common.{◌∙◌, refl, sym}
use Rattle.luks_aes.specs.Aes.{encrypted}
use Rattle.luks_cipher.specs.Cbc.{cbc_decrypted, cbc_encrypted}
use Rattle.luks_cipher.proofs.UnitsUndone.{equal_chain}
use Rattle.luks_cipher.proofs.sector.SectorCipher.decrypt_unit.Goals as goal

pub returns-in-CbcEssivSha256 : goal.returns-in-CbcEssivSha256
returns-in-CbcEssivSha256 c =
    let view = c.self.view_is in
    let arm = c.in-CbcEssivSha256.is in
    let digest = rw arm at c.self.invariant.digest in
    let iv = c.encrypt_block.ensures.value ∙ (λ i. encrypted (digest i) (c.number_block-iv.ensures i)) in
    let chain = c.decrypt_chain.ensures in
    record {
      value = rw (← view, arm) (equal_chain cbc_decrypted _ _ _ _ _ _ refl iv chain.value);
      undoes = rw (← view, arm) (λ plain bytes same is.
          chain.undoes plain bytes same (equal_chain cbc_encrypted _ _ _ _ _ _ refl (sym iv) is));
      undone = rw (← view, arm) (sym (equal_chain cbc_encrypted _ _ _ _ _ _ refl iv (sym chain.undone)));
    }

pub returns-in-CbcPlain64 : goal.returns-in-CbcPlain64
returns-in-CbcPlain64 c =
    let view = c.self.view_is in
    let arm = c.in-CbcPlain64.is in
    let iv = c.number_block.ensures in
    let chain = c.decrypt_chain-in-CbcPlain64.ensures in
    record {
      value = rw (← view, arm) (equal_chain cbc_decrypted _ _ _ _ _ _ refl iv chain.value);
      undoes = rw (← view, arm) (λ plain bytes same is.
          chain.undoes plain bytes same (equal_chain cbc_encrypted _ _ _ _ _ _ refl (sym iv) is));
      undone = rw (← view, arm) (sym (equal_chain cbc_encrypted _ _ _ _ _ _ refl iv (sym chain.undone)));
    }
