use Rattle.std.proofs.Common.{◌≡◌, ℕ, ◌≤◌}
use Rattle.luks_argon2.specs.Block.{block_row}
use Rattle.luks_argon2.specs.Permutation.{permutation}
use Rattle.luks_argon2.proofs.BlockLemmas.{HasRows}
use Rattle.luks_argon2.proofs.compression.permute_rows.Given as goal

abbrev pub invariant-rows : goal.invariant-rows
invariant-rows l = HasRows l.x (λ k. permutation (block_row l.fn.x k)) l.i
    × ((k : ℕ) → l.i ≤ k → block_row l.x k ≡ block_row l.fn.x k)
