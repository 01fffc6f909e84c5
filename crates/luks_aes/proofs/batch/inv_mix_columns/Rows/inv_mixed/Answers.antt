use Rattle.std.proofs.Common.{ℕ, arith}
use Rattle.luks_aes.specs.Columns.{inv_mixed_row}
use Rattle.luks_aes.proofs.BatchMixLemmas.{xor_plane, plane_also, first_row, second_row, third_row, fourth_row}
use Rattle.luks_aes.proofs.batch.inv_mix_columns.Rows.inv_mixed.Goals as goal

pub returns-clause-rows : goal.returns-clause-rows
returns-clause-rows g c = λ l y j low all is doubled.
    let shared = c.shared_values-shared.ensures in
    let whole = shared.all l y j low is in
    let even = shared.even l y j low is doubled.all in
    let step = shared.step l y j low is doubled.even in
    let a = λ (q : ℕ). all.at 0 q (omega arith) in
    let b = λ (q : ℕ). all.at 1 q (omega arith) in
    let third_byte = λ (q : ℕ). all.at 2 q (omega arith) in
    let d = λ (q : ℕ). all.at 3 q (omega arith) in
    let first = plane_also (inv_mixed_row y 0)
    (xor_plane (xor_plane doubled.step whole (c.xor-with_all.ensures l low)) is.row_0 (c.xor-row_0.ensures l low))
    (λ q. first_row (y 0 q) (y 1 q) (y 2 q) (y 3 q) (a q) (b q) (third_byte q) (d q)) in
    let second = plane_also (inv_mixed_row y 1) (xor_plane first step (c.xor-row_1.ensures l low))
    (λ q. second_row (y 0 q) (y 1 q) (y 2 q) (y 3 q) (a q) (b q) (third_byte q) (d q)) in
    record {
      row_0 = first;
      row_1 = second;
      row_2 = plane_also (inv_mixed_row y 2) (xor_plane first even (c.xor-row_2.ensures l low))
          (λ q. third_row (y 0 q) (y 1 q) (y 2 q) (y 3 q) (a q) (b q) (third_byte q) (d q));
      row_3 = plane_also (inv_mixed_row y 3)
          (xor_plane (xor_plane second even (c.xor-with_even.ensures l low)) whole (c.xor-row_3.ensures l low))
          (λ q. fourth_row (y 0 q) (y 1 q) (y 2 q) (y 3 q) (a q) (b q) (third_byte q) (d q));
    }

pub returns-clause-shared : goal.returns-clause-shared
returns-clause-shared g c = λ l y j low is doubled.
    let shared = c.shared_values-shared.ensures in
    record {
      all = shared.all l y j low is;
      even = shared.even l y j low is doubled.all;
      step = shared.step l y j low is doubled.even;
    }
