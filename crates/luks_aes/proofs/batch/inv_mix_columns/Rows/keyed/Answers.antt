use Rattle.luks_aes.proofs.BatchMixLemmas.{xor_plane}
use Rattle.luks_aes.proofs.batch.inv_mix_columns.Rows.keyed.Goals as goal

pub returns : goal.returns
returns g c = λ l y z j low is key. record {
  row_0 = xor_plane is.row_0 key.row_0 (c.xor-row_0.ensures l low);
  row_1 = xor_plane is.row_1 key.row_1 (c.xor-row_1.ensures l low);
  row_2 = xor_plane is.row_2 key.row_2 (c.xor-row_2.ensures l low);
  row_3 = xor_plane is.row_3 key.row_3 (c.xor-row_3.ensures l low);
}
