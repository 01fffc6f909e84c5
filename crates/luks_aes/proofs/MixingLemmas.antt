-- The matrices of MixColumns and InvMixColumns undo each other; the round keys of the equivalent inverse cipher.
use Rattle.std.proofs.Common.{◌≡◌, ℕ, zero, suc, ◌+◌, ◌-◌, ◌*◌, ◌%◌, ◌/◌, ◌<◌, ◌≤◌, Bool, true, false, cond, eqb, List}
use Rattle.std.proofs.Common.{[], ◌∷◌, ◌++◌, length, take, inl, inr, arith, refl, sym, ap, ◌∙◌}
use Rattle.std.specs.Prelude.{slice_index}
use Rattle.std.specs.Int.Bits.{bit_xor, xor_zero_r}
use Rattle.std.proofs.lemmas.Bool.{cases_lt}
use Rattle.std.proofs.lemmas.List.{get_or-take, get_or-append_right, length-take-le}
use Rattle.std.proofs.lemmas.Slice.{take-put_mid, take-put_mid_below}
use Rattle.std.proofs.lemmas.Nat.{div-mul-add, mod-mul-add}
use Rattle.std.proofs.lemmas.Nat.Bits.{same_from_bits, bit_at_xor}
use borrow.Rule.Slice.PartMut.{put_mid}
use Rattle.luks_aes.specs.Field.{◌⊕◌, ◌•◌, times_x, product_of_bits}
use Rattle.luks_aes.specs.Aes.{cell, state_of, word_of, word_at, multiplied_columns, inv_mix_columns, add_round_key}
use Rattle.luks_aes.specs.Bytes.{IsBytes}
use Rattle.luks_aes.specs.Columns.{column_product, IsMultiplied, key_byte, inv_mixed_row}
use Rattle.luks_aes.proofs.Bytes.{same_below, each_below_4}
use Rattle.luks_aes.proofs.ColumnLemmas.{IsState, xor_byte, times_x_byte, product_byte}

-- ---- products

-- the product of x and the XOR of two bytes, computed at each pair of bytes
times_x_pair : (n : ℕ) → n < 65536 → times_x ((n / 256) ⊕ (n % 256)) ≡ times_x (n / 256) ⊕ times_x (n % 256)
unfolding times_x
times_x_pair = same_below (λ n. times_x ((n / 256) ⊕ (n % 256))) (λ n. times_x (n / 256) ⊕ times_x (n % 256)) 65536 refl

pub times_x_xor : (a b : ℕ) → a < 256 → b < 256 → times_x (a ⊕ b) ≡ times_x a ⊕ times_x b
times_x_xor a b p q =
    let n = a * 256 + b in
    let high : n / 256 ≡ a = div-mul-add a 256 b q in
    let low : n % 256 ≡ b = mod-mul-add a 256 b q in
    rw (high, low) at (times_x_pair n (omega arith))

-- the second and the third of four terms can be swapped
inner_swapped : (p q r s : ℕ) → (p ⊕ q) ⊕ (r ⊕ s) ≡ (p ⊕ r) ⊕ (q ⊕ s)
inner_swapped p q r s = same_from_bits _ _ (λ i. simp bit_at_xor (omega arith))

choice_xor : (t : Bool) (a b : ℕ) → cond t (a ⊕ b) 0 ≡ cond t a 0 ⊕ cond t b 0
choice_xor true a b = refl
choice_xor false a b = refl

product_of_bits_xor : (n c a b : ℕ) → a < 256 → b < 256
    → product_of_bits n c (a ⊕ b) ≡ product_of_bits n c a ⊕ product_of_bits n c b
unfolding product_of_bits
product_of_bits_xor zero c a b p q = refl
product_of_bits_xor (suc n) c a b p q =
    let rest = product_of_bits_xor n (c / 2) (times_x a) (times_x b) (times_x_byte a p) (times_x_byte b q) in
    let here = choice_xor (eqb (c % 2) 1) a b in
    rw (here, times_x_xor a b p q, rest)
    (inner_swapped (cond (eqb (c % 2) 1) a 0) (cond (eqb (c % 2) 1) b 0) (product_of_bits n (c / 2) (times_x a))
    (product_of_bits n (c / 2) (times_x b)))

-- the product with the XOR of two bytes is the XOR of both products
pub product_xor : (c a b : ℕ) → a < 256 → b < 256 → c • (a ⊕ b) ≡ c • a ⊕ c • b
unfolding ◌•◌
product_xor c a b p q = product_of_bits_xor 8 c a b p q

product_xor4 : (k a b c d : ℕ) → a < 256 → b < 256 → c < 256 → d < 256
    → k • (a ⊕ b ⊕ c ⊕ d) ≡ k • a ⊕ k • b ⊕ k • c ⊕ k • d
product_xor4 k a b c d p q r s =
    let ab = xor_byte a b p q in
    rw (product_xor k (a ⊕ b ⊕ c) d (xor_byte (a ⊕ b) c ab r) s, product_xor k (a ⊕ b) c ab r, product_xor k a b p q)
    refl

-- sixteen terms, grouped by their letters
grouped_by_letter : (a1 a2 a3 a4 b1 b2 b3 b4 c1 c2 c3 c4 d1 d2 d3 d4 : ℕ)
    → (a1 ⊕ b1 ⊕ c1 ⊕ d1) ⊕ (b2 ⊕ c2 ⊕ d2 ⊕ a2) ⊕ (c3 ⊕ d3 ⊕ a3 ⊕ b3) ⊕ (d4 ⊕ a4 ⊕ b4 ⊕ c4)
    ≡ (a1 ⊕ a2 ⊕ a3 ⊕ a4) ⊕ (b1 ⊕ b2 ⊕ b3 ⊕ b4) ⊕ (c1 ⊕ c2 ⊕ c3 ⊕ c4) ⊕ (d1 ⊕ d2 ⊕ d3 ⊕ d4)
grouped_by_letter a1 a2 a3 a4 b1 b2 b3 b4 c1 c2 c3 c4 d1 d2 d3 d4 = same_from_bits _ _
    (λ i. simp bit_at_xor (omega arith))

-- a row of a matrix, times a column: the first row of the matrix is m, and each next row is rotated right by one
abbrev pub row_product : List ℕ → ℕ → ℕ → ℕ → ℕ → ℕ
row_product m a b c d = slice_index m 0 • a ⊕ slice_index m 1 • b ⊕ slice_index m 2 • c ⊕ slice_index m 3 • d

-- a row of InvMixColumns
abbrev pub inv_mixed : ℕ → ℕ → ℕ → ℕ → ℕ
inv_mixed a b c d = 14 • a ⊕ 11 • b ⊕ 13 • c ⊕ 9 • d

products_of : (m : List ℕ) (k a b c d : ℕ) → a < 256 → b < 256 → c < 256 → d < 256
    → k • row_product m a b c d
    ≡ k • (slice_index m 0 • a) ⊕ k • (slice_index m 1 • b) ⊕ k • (slice_index m 2 • c) ⊕ k • (slice_index m 3 • d)
products_of m k a b c d p q r s =
    product_xor4 k _ _ _ _ (product_byte (slice_index m 0) a p) (product_byte (slice_index m 1) b q)
    (product_byte (slice_index m 2) c r) (product_byte (slice_index m 3) d s)

-- one byte of a column after the matrices of m and k, in the row that is n rows above its own
abbrev after_both : List ℕ → List ℕ → ℕ → ℕ → ℕ
after_both k m n x =
    slice_index k 0 • (slice_index m n • x) ⊕ slice_index k 1 • (slice_index m ((n + 3) % 4) • x)
    ⊕ slice_index k 2 • (slice_index m ((n + 2) % 4) • x) ⊕ slice_index k 3 • (slice_index m ((n + 1) % 4) • x)

-- the byte comes back in its own row and cancels out in the other three
pub record AreInverse (k m : List ℕ) : Type 0 where
  pub own : (x : ℕ) → x < 256 → after_both k m 0 x ≡ x
  pub next : (x : ℕ) → x < 256 → after_both k m 1 x ≡ 0
  pub second : (x : ℕ) → x < 256 → after_both k m 2 x ≡ 0
  pub third : (x : ℕ) → x < 256 → after_both k m 3 x ≡ 0

pub inverse_of_mix : AreInverse (14 ∷ 11 ∷ 13 ∷ 9 ∷ []) (2 ∷ 3 ∷ 1 ∷ 1 ∷ [])
unfolding ◌•◌ product_of_bits times_x
inverse_of_mix = record {
  own = same_below (after_both (14 ∷ 11 ∷ 13 ∷ 9 ∷ []) (2 ∷ 3 ∷ 1 ∷ 1 ∷ []) 0) (λ x. x) 256 refl;
  next = same_below (after_both (14 ∷ 11 ∷ 13 ∷ 9 ∷ []) (2 ∷ 3 ∷ 1 ∷ 1 ∷ []) 1) (λ x. 0) 256 refl;
  second = same_below (after_both (14 ∷ 11 ∷ 13 ∷ 9 ∷ []) (2 ∷ 3 ∷ 1 ∷ 1 ∷ []) 2) (λ x. 0) 256 refl;
  third = same_below (after_both (14 ∷ 11 ∷ 13 ∷ 9 ∷ []) (2 ∷ 3 ∷ 1 ∷ 1 ∷ []) 3) (λ x. 0) 256 refl;
}

pub inverse_of_inv_mix : AreInverse (2 ∷ 3 ∷ 1 ∷ 1 ∷ []) (14 ∷ 11 ∷ 13 ∷ 9 ∷ [])
unfolding ◌•◌ product_of_bits times_x
inverse_of_inv_mix = record {
  own = same_below (after_both (2 ∷ 3 ∷ 1 ∷ 1 ∷ []) (14 ∷ 11 ∷ 13 ∷ 9 ∷ []) 0) (λ x. x) 256 refl;
  next = same_below (after_both (2 ∷ 3 ∷ 1 ∷ 1 ∷ []) (14 ∷ 11 ∷ 13 ∷ 9 ∷ []) 1) (λ x. 0) 256 refl;
  second = same_below (after_both (2 ∷ 3 ∷ 1 ∷ 1 ∷ []) (14 ∷ 11 ∷ 13 ∷ 9 ∷ []) 2) (λ x. 0) 256 refl;
  third = same_below (after_both (2 ∷ 3 ∷ 1 ∷ 1 ∷ []) (14 ∷ 11 ∷ 13 ∷ 9 ∷ []) 3) (λ x. 0) 256 refl;
}

pub row_undone : (k m : List ℕ) → AreInverse k m → (a b c d : ℕ) → a < 256 → b < 256 → c < 256 → d < 256
    → row_product k (row_product m a b c d) (row_product m b c d a) (row_product m c d a b) (row_product m d a b c) ≡ a
row_undone k m inverse a b c d p q r s =
    let t : ℕ → ℕ → ℕ → ℕ = λ u v x. slice_index k u • (slice_index m v • x) in
    (λ i. products_of m (slice_index k 0) a b c d p q r s i ⊕ products_of m (slice_index k 1) b c d a q r s p i
    ⊕ products_of m (slice_index k 2) c d a b r s p q i ⊕ products_of m (slice_index k 3) d a b c s p q r i)
    ∙ grouped_by_letter (t 0 0 a) (t 1 3 a) (t 2 2 a) (t 3 1 a) (t 0 1 b) (t 1 0 b) (t 2 3 b) (t 3 2 b)
    (t 0 2 c) (t 1 1 c) (t 2 0 c) (t 3 3 c) (t 0 3 d) (t 1 2 d) (t 2 1 d) (t 3 0 d)
    ∙ (λ i. inverse.own a p i ⊕ inverse.next b q i ⊕ inverse.second c r i ⊕ inverse.third d s i)
    ∙ xor_zero_r (a ⊕ 0 ⊕ 0) ∙ xor_zero_r (a ⊕ 0) ∙ xor_zero_r a

-- ---- a word that is written after the words before it

word_put : (xs ys : List ℕ) (at k j : ℕ) → at ≤ length xs → length ys ≡ 4 → j < 4
    → slice_index (put_mid at k xs ys) (at + j) ≡ slice_index ys j
word_put xs ys at k j inside four low =
    let index : at + j - at ≡ j = omega arith in
    sym (get_or-take (at + 4) (put_mid at k xs ys) (at + j) 0 (omega arith))
    ∙ ap (λ l. slice_index l (at + j)) (take-put_mid at k xs ys (at + 4) (omega arith) inside)
    ∙ get_or-append_right (take at xs) ys at (at + j) 0 (length-take-le at xs inside) (omega arith)
    ∙ ap (slice_index ys) index

word_kept : (xs ys : List ℕ) (at k j : ℕ) → at ≤ length xs → j < at
    → slice_index (put_mid at k xs ys) j ≡ slice_index xs j
word_kept xs ys at k j inside low =
    sym (get_or-take at (put_mid at k xs ys) j 0 low)
    ∙ ap (λ l. slice_index l j) (take-put_mid_below at k xs ys at (omega arith) inside)
    ∙ get_or-take at xs j 0 low

pub products_more : (a words old word : List ℕ) (i k : ℕ) → IsMultiplied a words old i → 4 * i + 4 ≤ length old
    → word ≡ column_product a (word_at words i) → IsMultiplied a words (put_mid (4 * i) k old word) (i + 1)
products_more a words old word i k before capacity is = record {
  at = λ j low.
      let four : length word ≡ 4 = ap length is in
      elim (cases_lt j i) [
        | inl below ↦
            let kept = λ (n : ℕ) (small : n < 4).
            word_kept old word (4 * i) k (4 * j + n) (omega arith) (omega arith) in
            (λ t. kept 0 (omega arith) t ∷ kept 1 (omega arith) t ∷ kept 2 (omega arith) t ∷ kept 3 (omega arith) t
            ∷ [])
            ∙ before.at j below
        | inr above ↦
            let here : j ≡ i = omega arith in
            let put = λ (n : ℕ) (small : n < 4). word_put old word (4 * i) k n (omega arith) four small
            ∙ ap (λ l. slice_index l n) is in
            rw here (λ t. put 0 (omega arith) t ∷ put 1 (omega arith) t ∷ put 2 (omega arith) t ∷ put 3 (omega arith) t
            ∷ [])
      ];
}

-- ---- InvMixColumns of a state XORed with a round key

xors_regrouped : (p q r s k l m n : ℕ) → (p ⊕ k) ⊕ (q ⊕ l) ⊕ (r ⊕ m) ⊕ (s ⊕ n) ≡ (p ⊕ q ⊕ r ⊕ s) ⊕ (k ⊕ l ⊕ m ⊕ n)
xors_regrouped p q r s k l m n = same_from_bits _ _ (λ i. simp bit_at_xor (omega arith))

pub inv_mixed_row_xor : (f g : ℕ → ℕ → ℕ) (r c : ℕ) → ((q : ℕ) → f q c < 256) → ((q : ℕ) → g q c < 256)
    → inv_mixed_row (λ r c. f r c ⊕ g r c) r c ≡ inv_mixed_row f r c ⊕ inv_mixed_row g r c
inv_mixed_row_xor f g r c p q =
    let one = λ (k : ℕ) (n : ℕ). product_xor k (f n c) (g n c) (p n) (q n) in
    (λ i. one 14 r i ⊕ one 11 ((r + 1) % 4) i ⊕ one 13 ((r + 2) % 4) i ⊕ one 9 ((r + 3) % 4) i)
    ∙ xors_regrouped (14 • f r c) (11 • f ((r + 1) % 4) c) (13 • f ((r + 2) % 4) c) (9 • f ((r + 3) % 4) c)
    (14 • g r c) (11 • g ((r + 1) % 4) c) (13 • g ((r + 2) % 4) c) (9 • g ((r + 3) % 4) c)

-- row r of word i after InvMixColumns
pub product_at : (w u : List ℕ) (n i r : ℕ) → IsMultiplied (14 ∷ 11 ∷ 13 ∷ 9 ∷ []) w u n → i < n → r < 4
    → cell u r i ≡ inv_mixed_row (cell w) r i
product_at w u n i r is low row =
    let e : (xs : List ℕ) (k : ℕ)
    → slice_index xs (4 * i + k) ≡ slice_index xs (k + 4 * i) = λ xs k. ap (slice_index xs) (omega arith) in
    each_below_4 (λ r. cell u r i ≡ inv_mixed_row (cell w) r i)
    (sym (e u 0) ∙ ap (λ l. slice_index l 0) (is.at i low) ∙ (λ t. inv_mixed (e w 0 t) (e w 1 t) (e w 2 t) (e w 3 t)))
    (sym (e u 1) ∙ ap (λ l. slice_index l 1) (is.at i low) ∙ (λ t. inv_mixed (e w 1 t) (e w 2 t) (e w 3 t) (e w 0 t)))
    (sym (e u 2) ∙ ap (λ l. slice_index l 2) (is.at i low) ∙ (λ t. inv_mixed (e w 2 t) (e w 3 t) (e w 0 t) (e w 1 t)))
    (sym (e u 3) ∙ ap (λ l. slice_index l 3) (is.at i low) ∙ (λ t. inv_mixed (e w 3 t) (e w 0 t) (e w 1 t) (e w 2 t)))
    r row

-- states are equal if they agree in their 16 cells
pub same_cells : (f g : ℕ → ℕ → ℕ) → ((r c : ℕ) → r < 4 → c < 4 → f r c ≡ g r c) → state_of f ≡ state_of g
same_cells f g same =
    let column : (c : ℕ) → c < 4 → word_of (λ r. f r c) ≡ word_of (λ r. g r c) = λ c low i.
    same 0 c (omega arith) low i ∷ same 1 c (omega arith) low i ∷ same 2 c (omega arith) low i
    ∷ same 3 c (omega arith) low i ∷ [] in
    λ i. column 0 (omega arith) i ++ (column 1 (omega arith) i ++ (column 2 (omega arith) i
    ++ column 3 (omega arith) i))

pub round_key_inv_mixed : (s w u : List ℕ) (n round : ℕ) → IsState s → IsBytes w
    → IsMultiplied (14 ∷ 11 ∷ 13 ∷ 9 ∷ []) w u n → 4 * round + 4 ≤ n
    → inv_mix_columns (add_round_key s w round) ≡ add_round_key (inv_mix_columns s) u round
unfolding multiplied_columns add_round_key
round_key_inv_mixed s w u n round is bytes products inside =
    same_cells (inv_mixed_row (λ r c. cell s r c ⊕ key_byte w round r c))
    (λ r c. inv_mixed_row (cell s) r c ⊕ key_byte u round r c)
    (λ r c row column.
    inv_mixed_row_xor (cell s) (key_byte w round) r c (λ q. is.bytes.each (q + 4 * c))
    (λ q. bytes.each (q + 4 * (4 * round + c)))
    ∙ ap (bit_xor (inv_mixed_row (cell s) r c)) (sym (product_at w u n (4 * round + c) r products (omega arith) row)))

-- a state has the cells that it was made from
pub cell_of : (f : ℕ → ℕ → ℕ) (r c : ℕ) → r < 4 → c < 4 → cell (state_of f) r c ≡ f r c
cell_of f r c low small =
    each_below_4 (λ r. (c : ℕ) → c < 4 → cell (state_of f) r c ≡ f r c)
    (each_below_4 (λ c. cell (state_of f) 0 c ≡ f 0 c) refl refl refl refl)
    (each_below_4 (λ c. cell (state_of f) 1 c ≡ f 1 c) refl refl refl refl)
    (each_below_4 (λ c. cell (state_of f) 2 c ≡ f 2 c) refl refl refl refl)
    (each_below_4 (λ c. cell (state_of f) 3 c ≡ f 3 c) refl refl refl refl)
    r low c small
