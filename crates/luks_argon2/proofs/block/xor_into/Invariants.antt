use Rattle.std.proofs.Common.{◌≡◌, ℕ, ◌≤◌}
use Rattle.luks_argon2.specs.Block.{block_row, xor_rows}
use Rattle.luks_argon2.proofs.BlockLemmas.{HasRows}
use Rattle.luks_argon2.proofs.block.xor_into.Given as goal

abbrev pub invariant-rows : goal.invariant-rows
invariant-rows l = HasRows l.x (λ k. xor_rows (block_row l.fn.x k) (block_row l.y k)) l.i
    × ((k : ℕ) → l.i ≤ k → block_row l.x k ≡ block_row l.fn.x k)
