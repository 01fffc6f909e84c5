use Rattle.luks_aes.proofs.BatchMixLemmas.{as_rows, moved, moved_bits, xored_bytes, even_bytes}
use Rattle.luks_aes.proofs.WordLemmas.{group_bytes, in_planes}
use Rattle.luks_aes.proofs.batch.state.BitslicedState.top_shared_values.Goals as goal

pub returns : goal.returns
returns g c = λ l y low holds.
    let all = group_bytes y holds in
    let (p0, p1, p2, p3, p4, p5, p6, p7) = in_planes y _ _ holds in
    let five = c.rows-lowest.ensures in
    let six = c.rows.ensures in
    let seven = c.rows-2.ensures in
    let rows_5 = as_rows (five.row_0 l low) (five.row_1 l low) (five.row_2 l low) (five.row_3 l low) p5 in
    let rows_6 = as_rows (six.row_0 l low) (six.row_1 l low) (six.row_2 l low) (six.row_3 l low) p6 in
    let rows_7 = as_rows (seven.row_0 l low) (seven.row_1 l low) (seven.row_2 l low) (seven.row_3 l low) p7 in
    let below = c.shared_values-below.ensures.all l y 5 low rows_5 in
    let middle = c.shared_values-middle.ensures.all l y 6 low rows_6 in
    let even = c.shared_values-middle.ensures.even l y 6 low rows_6
    (moved _ 5 6 moved_bits.3 (xored_bytes y all) below) in
    record {
      all = c.shared_values.ensures.all l y 7 low rows_7;
      even = c.shared_values.ensures.even l y 7 low rows_7 (moved _ 6 7 moved_bits.4 (xored_bytes y all) middle);
      step = c.shared_values.ensures.step l y 7 low rows_7 (moved _ 6 7 moved_bits.4 (even_bytes y all) even);
    }
