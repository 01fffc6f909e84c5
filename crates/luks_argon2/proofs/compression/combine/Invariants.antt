use Rattle.luks_argon2.specs.Block.{block_row, xor_blocks, xor_rows}
use Rattle.std.specs.Prelude.{if◌then◌else◌}
use Rattle.luks_argon2.proofs.BlockLemmas.{HasRows}
use Rattle.luks_argon2.proofs.compression.combine.Given as goal

abbrev pub invariant-rows : goal.invariant-rows
invariant-rows l =
    let r = xor_blocks l.previous l.reference in
    HasRows l.xored (λ k. xor_rows (block_row l.previous k) (block_row l.reference k)) l.i
    × HasRows l.kept (λ k. if l.again then xor_rows (block_row r k) (block_row l.old k) else block_row r k) l.i
