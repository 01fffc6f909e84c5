use Rattle.std.proofs.Common.{◌+◌, ◌*◌, arith}
use Rattle.std.specs.Prelude.{slice_index}
use Rattle.luks_aes.specs.Field.{◌⊕◌}
use Rattle.luks_aes.specs.Aes.{cell, add_round_key}
use Rattle.luks_aes.specs.Columns.{bytes_of_words}
use Rattle.luks_aes.proofs.ColumnLemmas.{key_column, columns_are}
use Rattle.luks_aes.proofs.columns.with_round_key.Goals as goal

pub returns : goal.returns
unfolding add_round_key bytes_of_words
returns c =
    let s = c.args.s in
    let w = c.args.schedule.now in
    let round = c.args.round in
    columns_are (λ r k. cell (bytes_of_words s) r k ⊕ slice_index w (r + 4 * (4 * round + k)))
    c.column_xor.result c.column_xor-2.result c.column_xor-3.result c.column_xor-4.result
    (key_column s w round 0 _ _ _ (omega arith) c.column_from.ensures c.column_xor.ensures)
    (key_column s w round 1 _ _ _ (omega arith) c.column_from-2.ensures c.column_xor-2.ensures)
    (key_column s w round 2 _ _ _ (omega arith) c.column_from-3.ensures c.column_xor-3.ensures)
    (key_column s w round 3 _ _ _ (omega arith) c.column_from-4.ensures c.column_xor-4.ensures)
