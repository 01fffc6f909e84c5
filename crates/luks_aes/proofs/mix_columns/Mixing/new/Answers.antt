use Rattle.luks_aes.proofs.ColumnLemmas.{mixed_0_table, mixed_1_table, mixed_2_table, mixed_3_table}
use Rattle.luks_aes.proofs.mix_columns.Mixing.new.Goals as goal

pub invariant_of-result : goal.invariant_of-result
invariant_of-result c = record {
  is_column_0 = mixed_0_table;
  is_column_1 = mixed_1_table;
  is_column_2 = mixed_2_table;
  is_column_3 = mixed_3_table;
}
