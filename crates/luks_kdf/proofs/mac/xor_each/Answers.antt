use Rattle.std.proofs.Common.{◌∙◌, ap, length}
use Rattle.std.proofs.lemmas.List.{take-replicate}
use Rattle.luks_kdf.specs.Bytes.{xor}
use Rattle.luks_kdf.proofs.mac.xor_each.Goals as goal

pub returns : goal.returns
returns c =
    c.xor_into.ensures
    ∙ ap (xor c.args.block.now) (take-replicate (length c.args.block.now) 128 c.args.pad c.requires)
