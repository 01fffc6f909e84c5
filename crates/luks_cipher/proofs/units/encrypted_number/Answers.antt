use Rattle.std.proofs.Common.{◌∙◌, ap}
use Rattle.std.specs.Int.{w128, to_le_bytes}
use Rattle.luks_aes.specs.Aes.{encrypted}
use Rattle.luks_cipher.proofs.units.encrypted_number.Goals as goal

pub returns : goal.returns
returns c key is =
    c.encrypt_block.ensures key is
    ∙ ap (encrypted key) (c.to_le_bytes-block.ensures ∙ ap (to_le_bytes w128) c.from.ensures)
