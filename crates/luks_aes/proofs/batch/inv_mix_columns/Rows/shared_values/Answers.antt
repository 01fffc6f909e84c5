use Rattle.luks_aes.proofs.BatchMixLemmas.{xor_plane}
use Rattle.luks_aes.proofs.batch.inv_mix_columns.Rows.shared_values.Goals as goal

pub returns-clause-all : goal.returns-clause-all
returns-clause-all g c = λ l y j low is.
    xor_plane (xor_plane (xor_plane is.row_0 is.row_2 (c.xor-ends.ensures l low)) is.row_1 (c.xor-three.ensures l low))
    is.row_3 (c.xor-all.ensures l low)

pub returns-clause-even : goal.returns-clause-even
returns-clause-even g c = λ l y j low is doubled.
    xor_plane doubled (xor_plane is.row_0 is.row_2 (c.xor-ends.ensures l low)) (c.xor-even.ensures l low)

pub returns-clause-step : goal.returns-clause-step
returns-clause-step g c = λ l y j low is doubled.
    xor_plane (xor_plane doubled is.row_0 (c.xor-with_first.ensures l low)) is.row_1 (c.xor-step.ensures l low)
