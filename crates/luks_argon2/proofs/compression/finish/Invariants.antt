use Rattle.luks_argon2.specs.Block.{block_of, block_row, xor_rows}
use Rattle.luks_argon2.specs.Compression.{column}
use Rattle.luks_argon2.proofs.BlockLemmas.{HasRows}
use Rattle.luks_argon2.proofs.compression.finish.Given as goal

abbrev pub invariant-rows : goal.invariant-rows
invariant-rows l = HasRows l.out (λ k. xor_rows (block_row l.kept k) (block_row (block_of (column l.columns)) k)) l.i
