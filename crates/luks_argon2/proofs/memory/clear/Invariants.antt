use Rattle.std.proofs.Common.{◌≡◌, length, replicate, take}
use Rattle.luks_argon2.specs.Block.{zero_block}
use Rattle.luks_argon2.proofs.memory.clear.Given as goal

abbrev pub invariant-zeros : goal.invariant-zeros
invariant-zeros l =
    (length l.blocks ≡ length l.fn.blocks) × (take l.i l.blocks ≡ replicate l.i zero_block)
