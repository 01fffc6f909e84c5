use Rattle.std.proofs.Common.{[], ◌∷◌}
use Rattle.luks_aes.specs.Aes.{matrix_cell, multiplied_columns, inv_shift_rows, inv_sub_bytes}
use Rattle.luks_aes.specs.Columns.{bytes_of_words}
use Rattle.luks_aes.proofs.ColumnLemmas.{columns_are}
use Rattle.luks_aes.proofs.columns.inv_mixed_columns.Goals as goal

pub returns : goal.returns
unfolding bytes_of_words multiplied_columns inv_shift_rows inv_sub_bytes
returns c =
    let first = c.to_le_bytes-a.ensures in
    let second = c.to_le_bytes-b.ensures in
    let third = c.to_le_bytes-c.ensures in
    let fourth = c.to_le_bytes-d.ensures in
    columns_are (matrix_cell (14 ∷ 11 ∷ 13 ∷ 9 ∷ []) (inv_sub_bytes (inv_shift_rows (bytes_of_words c.args.s))))
    c.inv_mixed.result c.inv_mixed-2.result c.inv_mixed-3.result c.inv_mixed-4.result
    (rw (first, second, third, fourth) at c.inv_mixed.ensures)
    (rw (first, second, third, fourth) at c.inv_mixed-2.ensures)
    (rw (first, second, third, fourth) at c.inv_mixed-3.ensures)
    (rw (first, second, third, fourth) at c.inv_mixed-4.ensures)
