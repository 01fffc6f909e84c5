use Rattle.std.proofs.Common.{[], ◌∷◌}
use Rattle.luks_aes.proofs.ColumnLemmas.{columns_summed}
use Rattle.luks_aes.proofs.mix_columns.Mixing.column.Goals as goal

pub returns : goal.returns
returns c =
    let tables = c.args.self.now in
    columns_summed (2 ∷ 3 ∷ 1 ∷ 1 ∷ []) _ _ _ _ _ _ _ _ (tables.is_column_0.at c.args.a c.ranges.a.fits)
    (tables.is_column_1.at c.args.b c.ranges.b.fits) (tables.is_column_2.at c.args.c c.ranges.c.fits)
    (tables.is_column_3.at c.args.d c.ranges.d.fits)
