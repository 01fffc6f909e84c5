use Rattle.luks_aes.proofs.ColumnLemmas.{bytes_of_xor}
use Rattle.luks_aes.proofs.columns.column_xor.Goals as goal

pub returns : goal.returns
returns c = bytes_of_xor c.args.a c.args.b
