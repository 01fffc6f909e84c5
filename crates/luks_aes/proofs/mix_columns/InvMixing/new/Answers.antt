use Rattle.luks_aes.proofs.ColumnLemmas.{inv_mixed_table}
use Rattle.luks_aes.proofs.mix_columns.InvMixing.new.Goals as goal

pub invariant_of-result : goal.invariant_of-result
invariant_of-result c = record { is_inv_mixing = inv_mixed_table }
