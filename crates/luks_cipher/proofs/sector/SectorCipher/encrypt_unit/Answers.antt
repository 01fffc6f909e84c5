use Rattle.std.proofs.Common.{◌∙◌, sym}
use Rattle.luks_aes.specs.Aes.{encrypted}
use Rattle.luks_cipher.specs.Cbc.{cbc_encrypted, cbc_decrypted}
use Rattle.luks_cipher.proofs.UnitsUndone.{equal_chain}
use Rattle.luks_cipher.proofs.sector.SectorCipher.encrypt_unit.Goals as goal

pub returns-in-CbcEssivSha256 : goal.returns-in-CbcEssivSha256
returns-in-CbcEssivSha256 c =
    let view = c.self.view_is in
    let arm = c.in-CbcEssivSha256.is in
    let digest = rw arm at c.self.invariant.digest in
    let iv = c.encrypt_block.ensures.value ∙ (λ i. encrypted (digest i) (c.number_block-iv.ensures i)) in
    let key = c.key.ensures in
    let chain = c.encrypt_chain.ensures in
    record {
      value = rw (← view, arm) (equal_chain cbc_encrypted _ _ _ _ _ _ key iv chain.value);
      undone = rw (← view, arm) (sym (equal_chain cbc_decrypted _ _ _ _ _ _ key iv (sym chain.undone)));
    }

pub returns-in-CbcPlain64 : goal.returns-in-CbcPlain64
returns-in-CbcPlain64 c =
    let view = c.self.view_is in
    let arm = c.in-CbcPlain64.is in
    let iv = c.number_block.ensures in
    let key = c.key-in-CbcPlain64.ensures in
    let chain = c.encrypt_chain-in-CbcPlain64.ensures in
    record {
      value = rw (← view, arm) (equal_chain cbc_encrypted _ _ _ _ _ _ key iv chain.value);
      undone = rw (← view, arm) (sym (equal_chain cbc_decrypted _ _ _ _ _ _ key iv (sym chain.undone)));
    }
