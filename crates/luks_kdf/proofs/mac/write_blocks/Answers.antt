use Rattle.std.proofs.Common.{◌∙◌}
use Rattle.luks_kdf.specs.Hmac.{inner_block, outer_block}
use Rattle.luks_kdf.proofs.Pbkdf2Lemmas.{padded_xor}
use Rattle.luks_kdf.proofs.mac.write_blocks.Goals as goal

pub returns-clause-inner : goal.returns-clause-inner
unfolding inner_block
returns-clause-inner g c =
    c.xor_each.ensures
    ∙ padded_xor g.E.Engine.function c.args.key.now c.pad_key.new.block 0x36 c.pad_key.ensures

pub returns-clause-outer : goal.returns-clause-outer
unfolding outer_block
returns-clause-outer g c =
    c.xor_each-2.ensures
    ∙ padded_xor g.E.Engine.function c.args.key.now c.copy_from_slice.new.self 0x5C
    (c.copy_from_slice.ensures.after ∙ c.pad_key.ensures)
