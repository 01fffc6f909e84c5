use Rattle.std.proofs.Common.{◌∙◌, ap}
use Rattle.luks_argon2.specs.Permutation.{on_columns, on_diagonals, permutation}
use Rattle.luks_argon2.specs.Vectors.{diagonals_as_columns, columns_as_diagonals}
use Rattle.luks_argon2.proofs.permutation.permute.Goals as goal

pub returns : goal.returns
unfolding permutation diagonals_as_columns columns_as_diagonals on_columns on_diagonals
returns c =
    let first = c.columns-v.ensures ∙ ap on_columns c.load.ensures in
    let between = c.diagonals_as_columns.ensures ∙ ap diagonals_as_columns first in
    let second = c.columns.ensures ∙ ap on_columns between in
    c.store.ensures ∙ (c.columns_as_diagonals.ensures ∙ ap columns_as_diagonals second)
