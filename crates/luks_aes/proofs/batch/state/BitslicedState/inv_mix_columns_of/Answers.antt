use Rattle.std.proofs.Common.{◌+◌, arith}
use Rattle.luks_aes.specs.BitPlanes.{rotated_index}
use Rattle.luks_aes.specs.Mixing.{mixed_and_shifted}
use Rattle.luks_aes.proofs.BatchMixLemmas.{row_byte, moved_bits, doubled_from}
use Rattle.luks_aes.proofs.WordLemmas.{group_bytes, in_planes, from_planes}
use Rattle.luks_aes.proofs.batch.state.BitslicedState.inv_mix_columns_of.Goals as goal

pub returns-clause-here : goal.returns-clause-here
returns-clause-here g c = λ l y z low holds key.
    let same = key.at (c.args.g + l) (omega arith) in
    let all = group_bytes y holds in
    let keys = group_bytes z same in
    let (p0, p1, p2, p3, p4, p5, p6, p7) = in_planes y _ _ holds in
    let (k0, k1, k2, k3, k4, k5, k6, k7) = in_planes z _ _ same in
    let top = c.top_shared_values-top.ensures l y low holds in
    let doubled_0 = doubled_from y 7 0 moved_bits.0 all top in
    let shared_0 = c.inv_mix_columns-shared_0.ensures.shared l y 0 low p0 doubled_0 in
    let doubled_1 = c.reduced-doubled_1.ensures.to_1 l y low all shared_0 top in
    let shared_1 = c.inv_mix_columns-shared_1.ensures.shared l y 1 low p1 doubled_1 in
    let doubled_2 = doubled_from y 1 2 moved_bits.1 all shared_1 in
    let shared_2 = c.inv_mix_columns-shared_2.ensures.shared l y 2 low p2 doubled_2 in
    let doubled_3 = c.reduced-doubled_3.ensures.to_3 l y low all shared_2 top in
    let shared_3 = c.inv_mix_columns-shared_3.ensures.shared l y 3 low p3 doubled_3 in
    let doubled_4 = c.reduced-doubled_4.ensures.to_4 l y low all shared_3 top in
    let shared_4 = c.inv_mix_columns-shared_4.ensures.shared l y 4 low p4 doubled_4 in
    let doubled_5 = doubled_from y 4 5 moved_bits.2 all shared_4 in
    let shared_5 = c.inv_mix_columns-shared_5.ensures.shared l y 5 low p5 doubled_5 in
    let doubled_6 = doubled_from y 5 6 moved_bits.3 all shared_5 in
    let shared_6 = c.inv_mix_columns-shared_6.ensures.shared l y 6 low p6 doubled_6 in
    let doubled_7 = doubled_from y 6 7 moved_bits.4 all shared_6 in
    from_planes (mixed_and_shifted y z) _ _
    (record { at = λ r q row. row_byte y z all keys r (rotated_index r q) row }) (
      c.inv_mix_columns-shared_0.ensures.plane l y z 0 low all p0 k0 doubled_0,
      c.inv_mix_columns-shared_1.ensures.plane l y z 1 low all p1 k1 doubled_1,
      c.inv_mix_columns-shared_2.ensures.plane l y z 2 low all p2 k2 doubled_2,
      c.inv_mix_columns-shared_3.ensures.plane l y z 3 low all p3 k3 doubled_3,
      c.inv_mix_columns-shared_4.ensures.plane l y z 4 low all p4 k4 doubled_4,
      c.inv_mix_columns-shared_5.ensures.plane l y z 5 low all p5 k5 doubled_5,
      c.inv_mix_columns-shared_6.ensures.plane l y z 6 low all p6 k6 doubled_6,
      c.inv_mix_columns.ensures.plane l y z 7 low all p7 k7 doubled_7,
    )
