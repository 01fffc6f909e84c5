use Rattle.std.proofs.Common.{◌≡◌, ◌*◌, length, take}
use Rattle.luks_argon2.specs.Argon2.{rows_bytes}
use Rattle.luks_argon2.proofs.tag.hash_block.Given as goal

abbrev pub invariant-rows : goal.invariant-rows
invariant-rows l = (length l.bytes ≡ 1024) × (take (128 * l.i) l.bytes ≡ rows_bytes l.block l.i)
