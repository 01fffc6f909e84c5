-- The bytes of vectors and of words: halves of a vector as words, and the bytes of two words.
use Rattle.std.proofs.lemmas.Grind.{common_steps}
use Rattle.std.proofs.Common.{◌≡◌, ℕ, zero, suc, ◌+◌, ◌-◌, ◌*◌, ◌/◌, ◌%◌, ◌^◌, ◌<◌, List, [], ◌∷◌, ◌++◌, length}
use Rattle.std.proofs.Common.{Fits, w8, arith, refl, sym, ap, subst, ◌∙◌, inl, inr}
use Rattle.std.specs.Prelude.{slice_index, slice_index_or}
use Rattle.std.specs.Int.{bit_at}
use Rattle.std.specs.Simd.Lanes.{Each1, chunk, number_l, digits_l, pick_l}
use Rattle.std.proofs.Math.Nat.{div-div-eq-div-mul, zero-div, div-one, pow-zero, pow-succ'}
use Rattle.std.proofs.lemmas.Bool.{cases_lt}
use Rattle.std.proofs.lemmas.Grind.{same_number_lists}
use Rattle.std.proofs.lemmas.Nat.Bits.{bit_at_cat_low, bit_at_cat_high}
use Rattle.std.proofs.lemmas.Simd.{Each1-chunk, get_or_wider, get_or_narrower, get_or-chunk, below_from_Fits}
use Rattle.luks_aes.specs.Aes.{cell, state_of}
use Rattle.luks_aes.proofs.Bytes.{each_below_4, each_below_8, each_below_16}
use Rattle.luks_aes.proofs.Undone.{whole_state}
use Rattle.luks_aes.specs.Shuffles.{by_rows, low_bytes, high_bytes, even_positions, byte_at, pair_bytes}

-- ---- words and their bytes

-- bit k of byte i of a word
byte_bit : (w i k : ℕ) → k < 8 → bit_at (byte_at w i) k ≡ bit_at w (8 * i + k)
byte_bit w zero k low =
    let whole : w / 256 * 2 ^ 8 + w % 256 ≡ w = omega arith in
    let index : k ≡ 8 * 0 + k = omega arith in
    cc (pow-zero 256, div-one w, bit_at_cat_low (w / 256) 8 (w % 256) k low, whole, index)
byte_bit w (suc i) k low =
    let whole : w / 256 * 2 ^ 8 + w % 256 ≡ w = omega arith in
    let index : 8 * suc i + k - 8 ≡ 8 * i + k = omega arith in
    ap (λ m. bit_at (w / m % 256) k) (pow-succ' 256 i)
    ∙ ap (λ m. bit_at (m % 256) k) (sym (div-div-eq-div-mul w 256 (256 ^ i)))
    ∙ byte_bit (w / 256) i k low
    ∙ sym (ap (bit_at (w / 256)) index)
    ∙ sym (bit_at_cat_high (w / 256) 8 (w % 256) (8 * suc i + k) (omega arith) (omega arith))
    ∙ ap (λ m. bit_at m (8 * suc i + k)) whole

byte_of_words : (a b p : ℕ) → p < 16
    → slice_index (pair_bytes a b) p ≡ byte_at (slice_index (a ∷ b ∷ []) (p / 8)) (p % 8)
byte_of_words a b =
    each_below_16 (λ p. slice_index (pair_bytes a b) p ≡ byte_at (slice_index (a ∷ b ∷ []) (p / 8)) (p % 8))
    refl refl refl refl refl refl refl refl refl refl refl refl refl refl refl refl

-- the bytes of a vector of two words
pub vector_of_words : (a b : ℕ) → a < 2 ^ 64 → b < 2 ^ 64
    → digits_l 256 16 (number_l (2 ^ 64) (a ∷ b ∷ [])) ≡ pair_bytes a b
vector_of_words a b x y =
    same_number_lists (digits_l 256 16 (number_l (2 ^ 64) (a ∷ b ∷ []))) (pair_bytes a b) refl
    (λ n inside.
    let low : n < 16 = inside in
    let index : 8 * (n / 8) + n % 8 ≡ n = omega arith in
    sym (ap (slice_index (digits_l 256 16 (number_l (2 ^ 64) (a ∷ b ∷ [])))) index)
    ∙ get_or_narrower (2 ^ 64) 8 256 16 (a ∷ b ∷ []) (n / 8) (n % 8) refl (x, (y, tt)) (omega arith) (omega arith)
    ∙ sym (byte_of_words a b n low))

-- ---- halves

-- byte i of the number that a list of bytes represents is byte i of the list
byte_of : (xs : List ℕ) (i : ℕ) → Each1 (λ x. x < 256) xs → number_l 256 xs / 256 ^ i % 256 ≡ slice_index xs i
byte_of [] i all = ap (λ n. n % 256) (zero-div (256 ^ i))
byte_of (x ∷ xs) zero all = grind (arith, common_steps, pow-zero, div-one)
byte_of (x ∷ xs) (suc i) all =
    let n = x + 256 * number_l 256 xs in
    let rest : n / 256 ≡ number_l 256 xs = omega (arith, all.0) in
    ap (λ m. n / m % 256) (pow-succ' 256 i)
    ∙ ap (λ m. m % 256) (sym (div-div-eq-div-mul n 256 (256 ^ i)))
    ∙ ap (λ m. m / 256 ^ i % 256) rest
    ∙ byte_of xs i all.1

-- half j of a vector of bytes, as a word
abbrev half : List ℕ → ℕ → ℕ
half v j = slice_index (digits_l (2 ^ 64) 2 (number_l 256 v)) j

half_byte : (v : List ℕ) (j i : ℕ) → Each1 (λ x. x < 256) v → j < 2 → i < 8
    → half v j / 256 ^ i % 256 ≡ slice_index v (8 * j + i)
half_byte v j i all low small =
    ap (λ n. n / 256 ^ i % 256) (get_or_wider 256 8 (2 ^ 64) 2 v j refl all low)
    ∙ byte_of (chunk (8 * j) 8 v) i (Each1-chunk (λ x. x < 256) (8 * j) 8 v all)
    ∙ get_or-chunk (8 * j) 8 v i 0 small

half_low : (v : List ℕ) (j : ℕ) → j < 2 → half v j < 2 ^ 64
half_low v zero low = omega arith
half_low v (suc zero) low = omega arith
half_low v (suc (suc j)) low = absurd (omega arith)

-- the bytes of half h of each of two vectors, side by side
abbrev of_halves : List ℕ → List ℕ → ℕ → List ℕ
of_halves a b h = digits_l 256 16 (number_l (2 ^ 64) (half a h ∷ half b h ∷ []))

byte_in : (a b : List ℕ) (h i : ℕ) → Each1 (λ x. x < 256) a → Each1 (λ x. x < 256) b → h < 2 → i < 8
    → (slice_index (of_halves a b h) (8 * 0 + i) ≡ slice_index a (8 * h + i))
    × (slice_index (of_halves a b h) (8 * 1 + i) ≡ slice_index b (8 * h + i))
byte_in a b h i all also low small =
    let lanes = half a h ∷ half b h ∷ [] in
    let x = half_low a h low in
    let y = half_low b h low in (
      get_or_narrower (2 ^ 64) 8 256 16 lanes 0 i refl (x, (y, tt)) small (omega arith)
          ∙ half_byte a h i all low small,
      get_or_narrower (2 ^ 64) 8 256 16 lanes 1 i refl (x, (y, tt)) small (omega arith)
          ∙ half_byte b h i also low small,
    )

-- v has byte i of half h of a, and after all of these byte i of half h of b
abbrev HasHalves : List ℕ → List ℕ → List ℕ → ℕ → ℕ → Type 0
HasHalves a b v h i =
    (slice_index v (8 * 0 + i) ≡ slice_index a (8 * h + i)) × (slice_index v (8 * 1 + i) ≡ slice_index b (8 * h + i))

halves_joined : (a b v : List ℕ) (h : ℕ) → Each1 (λ x. x < 256) a → Each1 (λ x. x < 256) b → h < 2 → length v ≡ 16
    → ((i : ℕ) → i < 8 → HasHalves a b v h i) → of_halves a b h ≡ v
halves_joined a b v h all also low long same =
    let lanes = of_halves a b h in
    same_number_lists lanes v (sym long)
    (λ n inside. elim (cases_lt n 8) [
      | inl below ↦
          let index : 8 * 0 + n ≡ n = omega arith in
          sym (ap (slice_index lanes) index) ∙ (byte_in a b h n all also low below).0 ∙ sym (same n below).0
          ∙ ap (slice_index v) index
      | inr above ↦
          let fits : n < 16 = inside in
          let index : 8 * 1 + (n - 8) ≡ n = omega arith in
          let rest : n - 8 < 8 = omega arith in
          sym (ap (slice_index lanes) index) ∙ (byte_in a b h (n - 8) all also low rest).1 ∙ sym (same (n - 8) rest).1
          ∙ ap (slice_index v) index
    ])

-- bit k of byte p of a half
half_bit : (v : List ℕ) (j p k : ℕ) → Each1 (Fits w8) v → j < 2 → p < 8 → k < 8
    → bit_at (half v j) (8 * p + k) ≡ bit_at (slice_index v (8 * j + p)) k
half_bit v j p k fits low small bit =
    sym (byte_bit (half v j) p k bit)
    ∙ ap (λ b. bit_at b k) (half_byte v j p (below_from_Fits w8 v fits) low small)

-- ---- the rows of two blocks

-- what holds of two states holds of any two vectors of 16 bytes
of_states : (P : List ℕ → List ℕ → Type 0) → ((f g : ℕ → ℕ → ℕ) → P (state_of f) (state_of g))
    → (a b : List ℕ) → length a ≡ 16 → length b ≡ 16 → P a b
of_states P all a b k l =
    subst (λ (x : List ℕ). P x b) (sym (whole_state a k))
    (subst (λ (x : List ℕ). P (state_of (cell a)) x) (sym (whole_state b l)) (all (cell a) (cell b)))

-- byte p of row r of two blocks
abbrev byte_in_row : List ℕ → List ℕ → ℕ → ℕ → ℕ
byte_in_row a b r p = slice_index (slice_index_or (a ∷ b ∷ []) (p % 2) []) (r + 4 * (p / 2))

abbrev RowsAt : List ℕ → List ℕ → ℕ → Type 0
RowsAt a b p =
    (slice_index (low_bytes (by_rows a) (by_rows b)) (8 * 0 + p) ≡ byte_in_row a b 0 p)
    × (slice_index (low_bytes (by_rows a) (by_rows b)) (8 * 1 + p) ≡ byte_in_row a b 1 p)
    × (slice_index (high_bytes (by_rows a) (by_rows b)) (8 * 0 + p) ≡ byte_in_row a b 2 p)
    × (slice_index (high_bytes (by_rows a) (by_rows b)) (8 * 1 + p) ≡ byte_in_row a b 3 p)

rows_at : (a b : List ℕ) → length a ≡ 16 → length b ≡ 16 → (p : ℕ) → p < 8 → RowsAt a b p
rows_at =
    of_states (λ a b. (p : ℕ) → p < 8 → RowsAt a b p)
    (λ f g. each_below_8 (λ p. RowsAt (state_of f) (state_of g) p)
    (refl, refl, refl, refl) (refl, refl, refl, refl) (refl, refl, refl, refl) (refl, refl, refl, refl)
    (refl, refl, refl, refl) (refl, refl, refl, refl) (refl, refl, refl, refl) (refl, refl, refl, refl))

pub rows_of_pair_at : (a b low high : List ℕ) → length a ≡ 16 → length b ≡ 16
    → low ≡ low_bytes (by_rows a) (by_rows b) → high ≡ high_bytes (by_rows a) (by_rows b)
    → Each1 (Fits w8) low → Each1 (Fits w8) high
    → (r p k : ℕ) → r < 4 → p < 8 → k < 8
    → bit_at (slice_index (half low 0 ∷ half low 1 ∷ half high 0 ∷ half high 1 ∷ []) r) (8 * p + k)
    ≡ bit_at (byte_in_row a b r p) k
rows_of_pair_at a b low high long long_too is also fits fits_too r p k inside small bit =
    each_below_4
    (λ r. bit_at (slice_index (half low 0 ∷ half low 1 ∷ half high 0 ∷ half high 1 ∷ []) r) (8 * p + k)
    ≡ bit_at (byte_in_row a b r p) k)
    (half_bit low 0 p k fits (omega arith) small bit
    ∙ ap (λ x. bit_at x k) (ap (λ v. slice_index v (8 * 0 + p)) is ∙ (rows_at a b long long_too p small).0))
    (half_bit low 1 p k fits (omega arith) small bit
    ∙ ap (λ x. bit_at x k) (ap (λ v. slice_index v (8 * 1 + p)) is ∙ (rows_at a b long long_too p small).1))
    (half_bit high 0 p k fits_too (omega arith) small bit
    ∙ ap (λ x. bit_at x k) (ap (λ v. slice_index v (8 * 0 + p)) also ∙ (rows_at a b long long_too p small).2))
    (half_bit high 1 p k fits_too (omega arith) small bit
    ∙ ap (λ x. bit_at x k) (ap (λ v. slice_index v (8 * 1 + p)) also ∙ (rows_at a b long long_too p small).3))
    r inside

-- ---- the two blocks of four rows

-- the low halves of two vectors, side by side; and the high halves
abbrev low_halves : List ℕ → List ℕ → List ℕ
low_halves a b = pick_l 0 (a ++ b) (0 ∷ 1 ∷ 2 ∷ 3 ∷ 4 ∷ 5 ∷ 6 ∷ 7 ∷ 16 ∷ 17 ∷ 18 ∷ 19 ∷ 20 ∷ 21 ∷ 22 ∷ 23 ∷ [])

abbrev high_halves : List ℕ → List ℕ → List ℕ
high_halves a b = pick_l 0 (a ++ b) (8 ∷ 9 ∷ 10 ∷ 11 ∷ 12 ∷ 13 ∷ 14 ∷ 15 ∷ 24 ∷ 25 ∷ 26 ∷ 27 ∷ 28 ∷ 29 ∷ 30 ∷ 31 ∷ [])

halves_at : (a b : List ℕ) → length a ≡ 16 → length b ≡ 16 → (i : ℕ) → i < 8
    → HasHalves a b (low_halves a b) 0 i × HasHalves a b (high_halves a b) 1 i
halves_at =
    of_states (λ a b. (i : ℕ) → i < 8 → HasHalves a b (low_halves a b) 0 i × HasHalves a b (high_halves a b) 1 i)
    (λ f g. each_below_8 (λ i. HasHalves (state_of f) (state_of g) (low_halves (state_of f) (state_of g)) 0 i
    × HasHalves (state_of f) (state_of g) (high_halves (state_of f) (state_of g)) 1 i)
    ((refl, refl), (refl, refl)) ((refl, refl), (refl, refl)) ((refl, refl), (refl, refl)) ((refl, refl), (refl, refl))
    ((refl, refl), (refl, refl)) ((refl, refl), (refl, refl)) ((refl, refl), (refl, refl)) ((refl, refl), (refl, refl)))

joined_halves : (a b : List ℕ) → Each1 (Fits w8) a → Each1 (Fits w8) b → length a ≡ 16 → length b ≡ 16
    → (of_halves a b 0 ≡ low_halves a b) × (of_halves a b 1 ≡ high_halves a b)
joined_halves a b first second k l =
    let all = below_from_Fits w8 a first in
    let also = below_from_Fits w8 b second in (
      halves_joined a b (low_halves a b) 0 all also (omega arith) refl (λ i low. (halves_at a b k l i low).0),
      halves_joined a b (high_halves a b) 1 all also (omega arith) refl (λ i low. (halves_at a b k l i low).1),
    )

pub below_2 : (P : ℕ → Type 0) → P 0 → P 1 → (e : ℕ) → e < 2 → P e
below_2 P p q zero low = p
below_2 P p q (suc zero) low = q
below_2 P p q (suc (suc e)) low = absurd (omega arith)

-- byte i of block e
abbrev BlocksAt : List ℕ → ℕ → Type 0
BlocksAt x i =
    let first = even_positions (pair_bytes (slice_index x 0) (slice_index x 1)) in
    let second = even_positions (pair_bytes (slice_index x 2) (slice_index x 3)) in
    let word = slice_index x (i % 4) in
    (slice_index (by_rows (low_halves first second)) i ≡ byte_at word (2 * (i / 4) + 0))
    × (slice_index (by_rows (high_halves first second)) i ≡ byte_at word (2 * (i / 4) + 1))

blocks_at : (x : List ℕ) (i : ℕ) → i < 16 → BlocksAt x i
blocks_at x =
    each_below_16 (BlocksAt x)
    (refl, refl) (refl, refl) (refl, refl) (refl, refl) (refl, refl) (refl, refl) (refl, refl) (refl, refl)
    (refl, refl) (refl, refl) (refl, refl) (refl, refl) (refl, refl) (refl, refl) (refl, refl) (refl, refl)

pub pair_of_rows_at : (x low high : List ℕ) → low ≡ even_positions (pair_bytes (slice_index x 0) (slice_index x 1))
    → high ≡ even_positions (pair_bytes (slice_index x 2) (slice_index x 3))
    → Each1 (Fits w8) low → Each1 (Fits w8) high → (a b : List ℕ)
    → a ≡ by_rows (of_halves low high 0) → b ≡ by_rows (of_halves low high 1)
    → (e i k : ℕ) → e < 2 → i < 16 → k < 8
    → bit_at (slice_index (slice_index_or (a ∷ b ∷ []) e []) i) k
    ≡ bit_at (slice_index x (i % 4)) (8 * (2 * (i / 4) + e) + k)
pair_of_rows_at x low high is also fits fits_too a b first second =
    let word = λ (i : ℕ). slice_index x (i % 4) in
    let halves = joined_halves low high fits fits_too (ap length is) (ap length also) in
    let zeroth = first ∙ ap by_rows (halves.0 ∙ (λ i. low_halves (is i) (also i))) in
    let other = second ∙ ap by_rows (halves.1 ∙ (λ i. high_halves (is i) (also i))) in
    λ e i k one inside bit.
    below_2
    (λ e. bit_at (slice_index (slice_index_or (a ∷ b ∷ []) e []) i) k
    ≡ bit_at (word i) (8 * (2 * (i / 4) + e) + k))
    (ap (λ v. bit_at (slice_index v i) k) zeroth
    ∙ ap (λ n. bit_at n k) (blocks_at x i inside).0
    ∙ byte_bit (word i) (2 * (i / 4) + 0) k bit)
    (ap (λ v. bit_at (slice_index v i) k) other
    ∙ ap (λ n. bit_at n k) (blocks_at x i inside).1
    ∙ byte_bit (word i) (2 * (i / 4) + 1) k bit)
    e one
