-- InvMixColumns by doublings and XORs, one bit plane at a time.
use Rattle.std.proofs.lemmas.Grind.{common_steps}
use Rattle.std.proofs.Common.{◌≡◌, ℕ, zero, suc, ◌+◌, ◌%◌, ◌<◌, arith, refl, sym, ap, ◌∙◌}
use Rattle.std.specs.Int.{bit_at}
use Rattle.std.specs.Int.Bits.{bit_xor}
use Rattle.std.proofs.lemmas.Nat.Bits.{same_from_bits, bit_at_xor}
use Rattle.luks_aes.specs.Field.{◌⊕◌, ◌•◌, times_x, product_of_bits}
use Rattle.luks_aes.specs.Columns.{inv_mixed_row}
use Rattle.luks_aes.proofs.Bytes.{same_below}
use Rattle.luks_aes.proofs.ColumnLemmas.{times_x_byte, product_byte, xor_byte}
use Rattle.luks_aes.proofs.MixingLemmas.{inv_mixed, times_x_xor}
use Rattle.luks_aes.specs.BitPlanes.{IsBitPlane}
use Rattle.luks_aes.specs.Words.{AreRows}
use Rattle.luks_aes.specs.Mixing.{column_bytes_xor, even_of, step_of, AreBytes, AreShared, AreDoubled}

-- a byte doubled n times
abbrev times_x_n : ℕ → ℕ → ℕ
times_x_n x zero = x
times_x_n x (suc n) = times_x (times_x_n x n)

times_x_n_byte : (x n : ℕ) → x < 256 → times_x_n x n < 256
times_x_n_byte x zero low = low
times_x_n_byte x (suc n) low = times_x_byte (times_x_n x n) (times_x_n_byte x n low)

-- ---- XORs of the doublings of the bytes of a column: a n is byte a doubled n times, and likewise for b, c and d

-- row 0 after InvMixColumns
abbrev row : (ℕ → ℕ) → (ℕ → ℕ) → (ℕ → ℕ) → (ℕ → ℕ) → ℕ
row a b c d = (a 1 ⊕ a 2 ⊕ a 3) ⊕ (b 0 ⊕ b 1 ⊕ b 3) ⊕ (c 0 ⊕ c 2 ⊕ c 3) ⊕ (d 0 ⊕ d 3)

-- the values that the rows share, doubled n times
abbrev all_at : (ℕ → ℕ) → (ℕ → ℕ) → (ℕ → ℕ) → (ℕ → ℕ) → ℕ → ℕ
all_at a b c d n = ((a n ⊕ c n) ⊕ b n) ⊕ d n

abbrev even_at : (ℕ → ℕ) → (ℕ → ℕ) → (ℕ → ℕ) → (ℕ → ℕ) → ℕ → ℕ
even_at a b c d n = all_at a b c d (suc n) ⊕ (a n ⊕ c n)

abbrev step_at : (ℕ → ℕ) → (ℕ → ℕ) → (ℕ → ℕ) → (ℕ → ℕ) → ℕ → ℕ
step_at a b c d n = (even_at a b c d (suc n) ⊕ a n) ⊕ b n

first_terms : (a b c d : ℕ → ℕ) → (step_at a b c d 1 ⊕ all_at a b c d 0) ⊕ a 0 ≡ row a b c d
first_terms a b c d = same_from_bits _ _ (λ i. simp bit_at_xor (omega arith))

second_terms : (a b c d : ℕ → ℕ) → row a b c d ⊕ step_at a b c d 0 ≡ row b c d a
second_terms a b c d = same_from_bits _ _ (λ i. simp bit_at_xor (omega arith))

third_terms : (a b c d : ℕ → ℕ) → row a b c d ⊕ even_at a b c d 0 ≡ row c d a b
third_terms a b c d = same_from_bits _ _ (λ i. simp bit_at_xor (omega arith))

fourth_terms : (a b c d : ℕ → ℕ) → (row b c d a ⊕ even_at a b c d 0) ⊕ all_at a b c d 0 ≡ row d a b c
fourth_terms a b c d = same_from_bits _ _ (λ i. simp bit_at_xor (omega arith))

in_doublings : (a b c d : ℕ) → a < 256 → b < 256 → c < 256 → d < 256
    → inv_mixed a b c d ≡ row (times_x_n a) (times_x_n b) (times_x_n c) (times_x_n d)
unfolding ◌•◌ product_of_bits times_x
in_doublings a b c d p q r s =
    let fourteen = same_below (λ x. 14 • x) (λ x. times_x_n x 1 ⊕ times_x_n x 2 ⊕ times_x_n x 3) 256 refl a p in
    let eleven = same_below (λ x. 11 • x) (λ x. times_x_n x 0 ⊕ times_x_n x 1 ⊕ times_x_n x 3) 256 refl b q in
    let thirteen = same_below (λ x. 13 • x) (λ x. times_x_n x 0 ⊕ times_x_n x 2 ⊕ times_x_n x 3) 256 refl c r in
    let nine = same_below (λ x. 9 • x) (λ x. times_x_n x 0 ⊕ times_x_n x 3) 256 refl d s in
    λ i. fourteen i ⊕ eleven i ⊕ thirteen i ⊕ nine i

-- ---- the rows of a column

module _ (a b c d : ℕ) (p : a < 256) (q : b < 256) (r : c < 256) (s : d < 256) where
  abbrev all_of : ℕ → ℕ
  all_of n = all_at (times_x_n a) (times_x_n b) (times_x_n c) (times_x_n d) n

  abbrev even_from : ℕ → ℕ
  even_from n = even_at (times_x_n a) (times_x_n b) (times_x_n c) (times_x_n d) n

  ends_byte : (n : ℕ) → times_x_n a n ⊕ times_x_n c n < 256
  ends_byte n = xor_byte (times_x_n a n) (times_x_n c n) (times_x_n_byte a n p) (times_x_n_byte c n r)

  three_byte : (n : ℕ) → (times_x_n a n ⊕ times_x_n c n) ⊕ times_x_n b n < 256
  three_byte n = xor_byte (times_x_n a n ⊕ times_x_n c n) (times_x_n b n) (ends_byte n) (times_x_n_byte b n q)

  ends_doubled : (n : ℕ) → times_x (times_x_n a n ⊕ times_x_n c n) ≡ times_x_n a (suc n) ⊕ times_x_n c (suc n)
  ends_doubled n = times_x_xor (times_x_n a n) (times_x_n c n) (times_x_n_byte a n p) (times_x_n_byte c n r)

  -- doubling the XOR of bytes gives the XOR of the doubled bytes
  all_doubled : (n : ℕ) → times_x (all_of n) ≡ all_of (suc n)
  all_doubled n =
      times_x_xor ((times_x_n a n ⊕ times_x_n c n) ⊕ times_x_n b n) (times_x_n d n) (three_byte n)
      (times_x_n_byte d n s)
      ∙ (λ i. times_x_xor (times_x_n a n ⊕ times_x_n c n) (times_x_n b n) (ends_byte n) (times_x_n_byte b n q) i
      ⊕ times_x_n d (suc n))
      ∙ (λ i. (ends_doubled n i ⊕ times_x_n b (suc n)) ⊕ times_x_n d (suc n))

  even_doubled : (n : ℕ) → times_x (even_from n) ≡ even_from (suc n)
  even_doubled n =
      times_x_xor (all_of (suc n)) (times_x_n a n ⊕ times_x_n c n)
      (xor_byte _ (times_x_n d (suc n)) (three_byte (suc n)) (times_x_n_byte d (suc n) s)) (ends_byte n)
      ∙ (λ i. all_doubled (suc n) i ⊕ ends_doubled n i)

  even_byte : (n : ℕ) → even_from n < 256
  even_byte n =
      xor_byte (all_of (suc n)) (times_x_n a n ⊕ times_x_n c n)
      (xor_byte _ (times_x_n d (suc n)) (three_byte (suc n)) (times_x_n_byte d (suc n) s)) (ends_byte n)

  even_is : even_of a b c d ≡ even_from 0
  even_is = ap (λ n. n ⊕ (a ⊕ c)) (all_doubled 0)

  step_is : step_of a b c d ≡ step_at (times_x_n a) (times_x_n b) (times_x_n c) (times_x_n d) 0
  step_is = ap (λ n. (times_x n ⊕ a) ⊕ b) even_is ∙ ap (λ n. (n ⊕ a) ⊕ b) (even_doubled 0)

  step_doubled : times_x (step_of a b c d) ≡ step_at (times_x_n a) (times_x_n b) (times_x_n c) (times_x_n d) 1
  step_doubled =
      ap times_x step_is
      ∙ times_x_xor (even_from 1 ⊕ a) b (xor_byte (even_from 1) a (even_byte 1) p) q
      ∙ (λ i. times_x_xor (even_from 1) a (even_byte 1) p i ⊕ times_x b)
      ∙ (λ i. (even_doubled 1 i ⊕ times_x a) ⊕ times_x b)

  pub first_row : (times_x (step_of a b c d) ⊕ column_bytes_xor a b c d) ⊕ a ≡ inv_mixed a b c d
  first_row =
      ap (λ n. (n ⊕ column_bytes_xor a b c d) ⊕ a) step_doubled
      ∙ first_terms (times_x_n a) (times_x_n b) (times_x_n c) (times_x_n d)
      ∙ sym (in_doublings a b c d p q r s)

  pub second_row : inv_mixed a b c d ⊕ step_of a b c d ≡ inv_mixed b c d a
  second_row =
      (λ i. in_doublings a b c d p q r s i ⊕ step_is i)
      ∙ second_terms (times_x_n a) (times_x_n b) (times_x_n c) (times_x_n d)
      ∙ sym (in_doublings b c d a q r s p)

  pub third_row : inv_mixed a b c d ⊕ even_of a b c d ≡ inv_mixed c d a b
  third_row =
      (λ i. in_doublings a b c d p q r s i ⊕ even_is i)
      ∙ third_terms (times_x_n a) (times_x_n b) (times_x_n c) (times_x_n d)
      ∙ sym (in_doublings c d a b r s p q)

  pub fourth_row : (inv_mixed b c d a ⊕ even_of a b c d) ⊕ column_bytes_xor a b c d ≡ inv_mixed d a b c
  fourth_row =
      (λ i. (in_doublings b c d a q r s p i ⊕ even_is i) ⊕ column_bytes_xor a b c d)
      ∙ fourth_terms (times_x_n a) (times_x_n b) (times_x_n c) (times_x_n d)
      ∙ sym (in_doublings d a b c s p q r)

  pub inv_mixed_byte : inv_mixed a b c d < 256
  inv_mixed_byte = grind (arith, common_steps, xor_byte, product_byte)

-- ---- bits of a byte times x

-- bit k of the doubled byte is bit j of the byte, or the XOR of its bits j and 7
abbrev IsMoved : ℕ → ℕ → Type 0
IsMoved j k = (b : ℕ) → b < 256 → bit_at (times_x b) k ≡ bit_at b j

abbrev IsReduced : ℕ → ℕ → Type 0
IsReduced j k = (b : ℕ) → b < 256 → bit_at (times_x b) k ≡ (bit_at b j + bit_at b 7) % 2

pub moved_bits : IsMoved 7 0 × IsMoved 1 2 × IsMoved 4 5 × IsMoved 5 6 × IsMoved 6 7
unfolding times_x
moved_bits = (
  same_below (λ b. bit_at (times_x b) 0) (λ b. bit_at b 7) 256 refl,
  same_below (λ b. bit_at (times_x b) 2) (λ b. bit_at b 1) 256 refl,
  same_below (λ b. bit_at (times_x b) 5) (λ b. bit_at b 4) 256 refl,
  same_below (λ b. bit_at (times_x b) 6) (λ b. bit_at b 5) 256 refl,
  same_below (λ b. bit_at (times_x b) 7) (λ b. bit_at b 6) 256 refl,
)

pub reduced_bits : IsReduced 0 1 × IsReduced 2 3 × IsReduced 3 4
unfolding times_x
reduced_bits = (
  same_below (λ b. bit_at (times_x b) 1) (λ b. (bit_at b 0 + bit_at b 7) % 2) 256 refl,
  same_below (λ b. bit_at (times_x b) 3) (λ b. (bit_at b 2 + bit_at b 7) % 2) 256 refl,
  same_below (λ b. bit_at (times_x b) 4) (λ b. (bit_at b 3 + bit_at b 7) % 2) 256 refl,
)

-- ---- bit planes

-- the XOR of two words holds bit k of the bytes x, if that is the XOR of the bits that both words hold
pub plane_of_xors : (x : ℕ → ℕ) (k : ℕ) {y z : ℕ → ℕ} {i j v w r : ℕ} → IsBitPlane y i v → IsBitPlane z j w
    → r ≡ bit_xor v w → ((q : ℕ) → bit_at (x q) k ≡ (bit_at (y q) i + bit_at (z q) j) % 2) → IsBitPlane x k r
plane_of_xors x k {y} {z} {i} {j} {v} {w} {r} first second is law = record {
  at = λ q low. ap (λ n. bit_at n q) is
      ∙ bit_at_xor v w q
      ∙ (λ t. (first.at q low t + second.at q low t) % 2)
      ∙ sym (law q);
}

pub xor_plane : {y z : ℕ → ℕ} {j v w r : ℕ} → IsBitPlane y j v → IsBitPlane z j w → r ≡ bit_xor v w
    → IsBitPlane (λ q. y q ⊕ z q) j r
xor_plane {y} {z} {j} first second is =
    plane_of_xors (λ q. y q ⊕ z q) j first second is (λ q. bit_at_xor (y q) (z q) j)

-- the same word, and the same bytes
pub as_plane : {y : ℕ → ℕ} {j v w : ℕ} → v ≡ w → IsBitPlane y j w → IsBitPlane y j v
as_plane same is = record { at = λ q low. ap (λ n. bit_at n q) same ∙ is.at q low }

pub plane_also : {y : ℕ → ℕ} (z : ℕ → ℕ) {j w : ℕ} → IsBitPlane y j w → ((q : ℕ) → y q ≡ z q) → IsBitPlane z j w
plane_also z {j} is same = record { at = λ q low. is.at q low ∙ ap (λ b. bit_at b j) (same q) }

pub as_rows : {y : ℕ → ℕ → ℕ} {j a b c d e f g h : ℕ} → a ≡ e → b ≡ f → c ≡ g → d ≡ h → AreRows y j e f g h
    → AreRows y j a b c d
as_rows p q r s are = record {
  row_0 = as_plane p are.row_0;
  row_1 = as_plane q are.row_1;
  row_2 = as_plane r are.row_2;
  row_3 = as_plane s are.row_3;
}

-- bit k of the doubled bytes, if that is bit j of the bytes
pub moved : (f : ℕ → ℕ) (j k : ℕ) {w : ℕ} → IsMoved j k → ((q : ℕ) → f q < 256) → IsBitPlane f j w
    → IsBitPlane (λ q. times_x (f q)) k w
moved f j k law bytes is = record { at = λ q low. is.at q low ∙ sym (law (f q) (bytes q)) }

-- ---- the shared values as bytes

pub xored_bytes : (y : ℕ → ℕ → ℕ) → AreBytes y → (q : ℕ) → column_bytes_xor (y 0 q) (y 1 q) (y 2 q) (y 3 q) < 256
xored_bytes y all q =
    xor_byte _ (y 3 q)
    (xor_byte _ (y 1 q) (xor_byte (y 0 q) (y 2 q) (all.at 0 q (omega arith)) (all.at 2 q (omega arith)))
    (all.at 1 q (omega arith))) (all.at 3 q (omega arith))

pub even_bytes : (y : ℕ → ℕ → ℕ) → AreBytes y → (q : ℕ) → even_of (y 0 q) (y 1 q) (y 2 q) (y 3 q) < 256
even_bytes y all q = grind (arith, common_steps, xor_byte, times_x_byte, xored_bytes)

step_bytes : (y : ℕ → ℕ → ℕ) → AreBytes y → (q : ℕ) → step_of (y 0 q) (y 1 q) (y 2 q) (y 3 q) < 256
step_bytes y all q =
    xor_byte _ (y 1 q) (xor_byte _ (y 0 q) (times_x_byte _ (even_bytes y all q)) (all.at 0 q (omega arith)))
    (all.at 1 q (omega arith))

-- ---- the shared values in one bit plane as doubled values in another

pub doubled_from : (y : ℕ → ℕ → ℕ) (j k : ℕ) {a e s : ℕ} → IsMoved j k → AreBytes y → AreShared y j a e s
    → AreDoubled y k a e s
doubled_from y j k law all has = record {
  all = moved _ j k law (xored_bytes y all) has.all;
  even = moved _ j k law (even_bytes y all) has.even;
  step = moved _ j k law (step_bytes y all) has.step;
}

-- the doubled values in plane k are the values in plane j XORed with those in plane 7, if bit k of each doubled byte is
-- the XOR of the byte's bits j and 7
pub doubled_with : (y : ℕ → ℕ → ℕ) (j k : ℕ) {a e s b f t c g u : ℕ} → IsReduced j k
    → AreBytes y → AreShared y j a e s → AreShared y 7 b f t
    → c ≡ bit_xor a b → g ≡ bit_xor e f → u ≡ bit_xor s t → AreDoubled y k c g u
doubled_with y j k law all has top p q r = record {
  all = plane_of_xors _ k has.all top.all p (λ n. law _ (xored_bytes y all n));
  even = plane_of_xors _ k has.even top.even q (λ n. law _ (even_bytes y all n));
  step = plane_of_xors _ k has.step top.step r (λ n. law _ (step_bytes y all n));
}

-- ---- rows

-- after InvMixColumns and the XOR with a round key, a row still consists of bytes
pub row_byte : (y z : ℕ → ℕ → ℕ) → AreBytes y → AreBytes z → (r q : ℕ) → r < 4 → inv_mixed_row y r q ⊕ z r q < 256
row_byte y z all keys r q low =
    xor_byte _ _
    (inv_mixed_byte _ _ _ _ (all.at r q low) (all.at ((r + 1) % 4) q (omega arith)) (all.at
    ((r + 2) % 4) q (omega arith))
    (all.at ((r + 3) % 4) q (omega arith)))
    (keys.at r q low)
