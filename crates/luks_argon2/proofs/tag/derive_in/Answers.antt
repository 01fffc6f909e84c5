use Rattle.std.proofs.Common.{refl}
use Rattle.luks_argon2.specs.Argon2.{tag_in}
use Rattle.luks_argon2.proofs.tag.derive_in.Goals as goal

pub returns : goal.returns
unfolding tag_in
returns c =
    rw (c.hash_block.ensures, c.last_column_xor-block.ensures, c.fill.ensures, c.write_first_blocks.ensures) refl
