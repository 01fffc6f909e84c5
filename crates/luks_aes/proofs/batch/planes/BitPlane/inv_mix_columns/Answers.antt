use Rattle.luks_aes.specs.Field.{◌⊕◌}
use Rattle.luks_aes.specs.Columns.{inv_mixed_row}
use Rattle.luks_aes.proofs.BatchMixLemmas.{as_rows}
use Rattle.luks_aes.proofs.batch.planes.BitPlane.inv_mix_columns.Goals as goal

pub returns-clause-plane : goal.returns-clause-plane
returns-clause-plane g c = λ l y z j low all is key doubled.
    let old = c.rows-rows.ensures in
    let other = c.rows.ensures in
    let new = c.put_rows.ensures in
    let mixed = c.inv_mixed-mixed.ensures.rows l y j low all
    (as_rows (old.row_0 l low) (old.row_1 l low) (old.row_2 l low) (old.row_3 l low) is) doubled in
    let keyed = c.keyed-keyed.ensures l (inv_mixed_row y) z j low mixed
    (as_rows (other.row_0 l low) (other.row_1 l low) (other.row_2 l low) (other.row_3 l low) key) in
    as_rows (new.row_0 l low) (new.row_1 l low) (new.row_2 l low) (new.row_3 l low)
    (c.inv_shifted.ensures l (λ r q. inv_mixed_row y r q ⊕ z r q) j low keyed)
