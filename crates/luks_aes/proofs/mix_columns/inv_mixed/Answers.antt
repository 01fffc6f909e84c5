use Rattle.std.proofs.Common.{[], ◌∷◌, arith}
use Rattle.luks_aes.proofs.ColumnLemmas.{columns_xored}
use Rattle.luks_aes.proofs.mix_columns.inv_mixed.Goals as goal

pub returns : goal.returns
returns c =
    columns_xored (14 ∷ 11 ∷ 13 ∷ 9 ∷ []) _ c.entry-2.result c.entry-3.result c.entry-4.result _ _ _ _
    (omega arith) (omega arith) (omega arith) c.entry.ensures c.entry-2.ensures c.entry-3.ensures c.entry-4.ensures
    c.rotate_left.ensures c.rotate_left-2.ensures c.rotate_left-3.ensures
