use Rattle.std.proofs.Common.{refl}
use Rattle.luks_argon2.specs.Addressing.{address_block}
use Rattle.luks_argon2.specs.Block.{zero_block}
use Rattle.luks_argon2.proofs.addressing.address_block.Goals as goal

pub returns : goal.returns
unfolding address_block zero_block
returns c = rw (c.compress_into-2.ensures, c.compress_into.ensures, c.variant_number.ensures) refl
