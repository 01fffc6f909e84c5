use Rattle.luks_aes.specs.BitPlanes.{rotated_index}
use Rattle.luks_aes.proofs.WordLemmas.{group_bytes, in_planes, from_planes}
use Rattle.luks_aes.proofs.batch.state.BitslicedState.inv_shift_rows_of.Goals as goal

pub returns-clause-here : goal.returns-clause-here
returns-clause-here g c = λ y holds.
    let (p0, p1, p2, p3, p4, p5, p6, p7) = in_planes y _ _ holds in
    from_planes (λ r q. y r (rotated_index r q)) _ _
    (record { at = λ r q low. (group_bytes y holds).at r (rotated_index r q) low }) (
      c.inv_shift_rows.ensures.plane y 0 p0,
      c.inv_shift_rows-2.ensures.plane y 1 p1,
      c.inv_shift_rows-3.ensures.plane y 2 p2,
      c.inv_shift_rows-4.ensures.plane y 3 p3,
      c.inv_shift_rows-5.ensures.plane y 4 p4,
      c.inv_shift_rows-6.ensures.plane y 5 p5,
      c.inv_shift_rows-7.ensures.plane y 6 p6,
      c.inv_shift_rows-8.ensures.plane y 7 p7,
    )
