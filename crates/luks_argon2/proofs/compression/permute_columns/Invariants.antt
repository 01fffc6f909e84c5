use Rattle.luks_argon2.specs.Compression.{column}
use Rattle.luks_argon2.specs.Permutation.{permutation}
use Rattle.luks_argon2.proofs.BlockLemmas.{HasRows}
use Rattle.luks_argon2.proofs.compression.permute_columns.Given as goal

abbrev pub invariant-columns : goal.invariant-columns
invariant-columns l = HasRows l.columns (λ k. permutation (column l.rows k)) l.i
