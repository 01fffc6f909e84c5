use Rattle.std.proofs.lemmas.Grind.{common_steps}
use Rattle.std.proofs.Common.{arith}
use Rattle.luks_argon2.proofs.BlockLemmas.{all_rows, one_more_row, row_of}
use Rattle.luks_argon2.proofs.compression.finish.Goals as goal

pub rows-preserved : goal.rows-preserved
rows-preserved c =
    grind (arith, common_steps, one_more_row, row_of, c.xor_rows.ensures, c.column.ensures, c.rows.invariant)

pub returns : goal.returns
returns c = all_rows _ _ c.rows.i (omega arith) c.rows.invariant
