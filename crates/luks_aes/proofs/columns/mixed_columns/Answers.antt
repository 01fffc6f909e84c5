use Rattle.std.proofs.Common.{[], ◌∷◌}
use Rattle.luks_aes.specs.Aes.{matrix_cell, multiplied_columns, shift_rows, sub_bytes}
use Rattle.luks_aes.specs.Columns.{bytes_of_words}
use Rattle.luks_aes.proofs.ColumnLemmas.{columns_are}
use Rattle.luks_aes.proofs.columns.mixed_columns.Goals as goal

pub returns : goal.returns
unfolding bytes_of_words multiplied_columns shift_rows sub_bytes
returns c =
    let first = c.to_le_bytes-a.ensures in
    let second = c.to_le_bytes-b.ensures in
    let third = c.to_le_bytes-c.ensures in
    let fourth = c.to_le_bytes-d.ensures in
    columns_are (matrix_cell (2 ∷ 3 ∷ 1 ∷ 1 ∷ []) (shift_rows (sub_bytes (bytes_of_words c.args.s))))
    c.mixed.result c.mixed-2.result c.mixed-3.result c.mixed-4.result
    (rw (first, second, third, fourth) at c.mixed.ensures) (rw (first, second, third, fourth) at c.mixed-2.ensures)
    (rw (first, second, third, fourth) at c.mixed-3.ensures) (rw (first, second, third, fourth) at c.mixed-4.ensures)
