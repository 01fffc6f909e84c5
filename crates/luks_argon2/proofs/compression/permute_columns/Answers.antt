use Rattle.std.proofs.Common.{◌∙◌, arith, ap}
use Rattle.luks_argon2.specs.Permutation.{permutation}
use Rattle.luks_argon2.proofs.BlockLemmas.{all_rows, one_more_row}
use Rattle.luks_argon2.proofs.compression.permute_columns.Goals as goal

pub columns-preserved : goal.columns-preserved
columns-preserved c =
    one_more_row _ _ c.columns.i _ (omega arith)
    (c.permute.ensures ∙ ap permutation c.column.ensures) c.columns.invariant

pub returns : goal.returns
returns c = all_rows _ _ c.columns.i (omega arith) c.columns.invariant
