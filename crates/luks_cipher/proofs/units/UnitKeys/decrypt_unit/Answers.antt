use Rattle.std.proofs.Common.{◌∙◌, ap}
use Rattle.luks_cipher.specs.Cbc.{cbc_decrypted}
use Rattle.luks_cipher.proofs.units.UnitKeys.decrypt_unit.Goals as goal

pub returns-in-CbcPlain64 : goal.returns-in-CbcPlain64
returns-in-CbcPlain64 c =
    rw c.in-CbcPlain64.is (λ key is.
    c.decrypt_batches-in-CbcPlain64.ensures.value key is
    ∙ ap (λ v. cbc_decrypted key v c.args.unit.now) c.number_block.ensures)
