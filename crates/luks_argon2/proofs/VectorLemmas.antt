-- Operations on vectors of four words, lane by lane.
use Rattle.std.proofs.Common.{rules}
use Rattle.std.proofs.Common.{◌≡◌, ℕ, zero, suc, ◌+◌, ◌*◌, ◌/◌, ◌%◌, ◌^◌, ◌<◌, List, [], ◌∷◌, length, replicate, refl}
use Rattle.std.proofs.Common.{arith}
use Rattle.std.proofs.Common.{bit_and, bit_or, bit_xor, ◌∙◌, ap}
use Rattle.std.proofs.lemmas.Nat.{and_mask}
use Rattle.std.specs.Prelude.{slice_index}
use Rattle.std.specs.Int.{rotate_right, w64}
use Rattle.std.specs.Simd.Lanes.{zip2}
use Rattle.luks_argon2.specs.Permutation.{gb, half_gb, multiply_add, on_columns, woven}
use Rattle.luks_argon2.specs.Permutation.{xor_rotated}
use Rattle.luks_argon2.specs.Vectors.{AreHalves, vector_lane, vector_words}

pub below_four : (P : ℕ → Type 0) → P 0 → P 1 → P 2 → P 3 → (j : ℕ) → j < 4 → P j
below_four P p0 p1 p2 p3 zero h = p0
below_four P p0 p1 p2 p3 (suc zero) h = p1
below_four P p0 p1 p2 p3 (suc (suc zero)) h = p2
below_four P p0 p1 p2 p3 (suc (suc (suc zero))) h = p3
below_four P p0 p1 p2 p3 (suc (suc (suc (suc n)))) h = absurd (omega arith)

pub four_lanes : (P : List ℕ → Type 0) → ((a b c d : ℕ) → P (a ∷ b ∷ c ∷ d ∷ [])) → (xs : List ℕ) → length xs ≡ 4 → P xs
four_lanes P p (a ∷ b ∷ c ∷ d ∷ []) h = p a b c d
four_lanes P p _ h = absurd (omega arith)

pub sixteen_words : (x : List ℕ) → length x ≡ 16
    → slice_index x 0 ∷ slice_index x 1 ∷ slice_index x 2 ∷ slice_index x 3 ∷ slice_index x 4 ∷ slice_index x 5
    ∷ slice_index x 6 ∷ slice_index x 7 ∷ slice_index x 8 ∷ slice_index x 9 ∷ slice_index x 10 ∷ slice_index x 11
    ∷ slice_index x 12 ∷ slice_index x 13 ∷ slice_index x 14 ∷ slice_index x 15 ∷ [] ≡ x
sixteen_words (a ∷ b ∷ c ∷ d ∷ e ∷ f ∷ g ∷ h ∷ i ∷ j ∷ k ∷ l ∷ m ∷ n ∷ o ∷ p ∷ []) long = refl
sixteen_words _ long = absurd (omega arith)

-- ---- the product

mod_sums : (s p : ℕ) → (s % 2 ^ 64 + (p % 2 ^ 64 + p % 2 ^ 64) % 2 ^ 64) % 2 ^ 64 ≡ (s + 2 * p) % 2 ^ 64
mod_sums s p = omega arith

-- the product of the low halves, as it is computed
abbrev low_product : ℕ → ℕ → ℕ
low_product x y = bit_and x 4294967295 * bit_and y 4294967295 % 2 ^ 64

multiply_add_short : (x y : ℕ)
    → ((x + y) % 2 ^ 64 + (low_product x y + low_product x y) % 2 ^ 64) % 2 ^ 64 ≡ multiply_add x y
unfolding multiply_add
multiply_add_short x y =
    rw (and_mask x 32, and_mask y 32) (mod_sums (x + y) (x % 2 ^ 32 * (y % 2 ^ 32)))

abbrev add_lanes : List ℕ → List ℕ → List ℕ
add_lanes = zip2 (λ (a b : ℕ). (a + b) % 2 ^ 64)

abbrev low_lanes : List ℕ → List ℕ
low_lanes x = zip2 bit_and x (replicate 4 4294967295)

abbrev product_lanes : List ℕ → List ℕ → List ℕ
product_lanes x y = zip2 (λ (a b : ℕ). a * b % 2 ^ 64) (low_lanes x) (low_lanes y)

abbrev IsMultiplyAdd : List ℕ → List ℕ → Type 0
IsMultiplyAdd x y = (j : ℕ) → j < 4
    → slice_index (add_lanes (add_lanes x y) (add_lanes (product_lanes x y) (product_lanes x y))) j
    ≡ multiply_add (slice_index x j) (slice_index y j)

pub lanes_multiply_add : (x : List ℕ) → length x ≡ 4 → (y : List ℕ) → length y ≡ 4 → IsMultiplyAdd x y
lanes_multiply_add x lx y ly =
    four_lanes (λ x. IsMultiplyAdd x y) (λ a b c d.
    four_lanes (λ y. IsMultiplyAdd (a ∷ b ∷ c ∷ d ∷ []) y) (λ e f g h.
    below_four _ (multiply_add_short a e) (multiply_add_short b f) (multiply_add_short c g) (multiply_add_short d h))
    y ly) x lx

-- ---- the rotations

abbrev turned_lanes : ℕ → ℕ → List ℕ → List ℕ
turned_lanes k m z =
    zip2 bit_or (zip2 (λ (a n : ℕ). a / 2 ^ n) z (k ∷ k ∷ k ∷ k ∷ []))
    (zip2 (λ (a n : ℕ). a * 2 ^ n % 2 ^ 64) z (m ∷ m ∷ m ∷ m ∷ []))

abbrev IsXorRotated : ℕ → ℕ → List ℕ → List ℕ → Type 0
IsXorRotated k m x y = (j : ℕ) → j < 4
    → slice_index (turned_lanes k m (zip2 bit_xor x y)) j ≡ xor_rotated (slice_index x j) (slice_index y j) k

pub lanes_xor_rotated : (k m : ℕ)
    → ((z : ℕ) → bit_or (z / 2 ^ k) (z * 2 ^ m % 2 ^ 64) ≡ rotate_right w64 z k)
    → (x : List ℕ) → length x ≡ 4 → (y : List ℕ) → length y ≡ 4 → IsXorRotated k m x y
unfolding xor_rotated
lanes_xor_rotated k m law x lx y ly =
    four_lanes (λ x. IsXorRotated k m x y) (λ a b c d.
    four_lanes (λ y. IsXorRotated k m (a ∷ b ∷ c ∷ d ∷ []) y) (λ e f g h.
    below_four _ (law (bit_xor a e)) (law (bit_xor b f)) (law (bit_xor c g)) (law (bit_xor d h)))
    y ly) x lx

-- ---- GB in each lane

woven_same : {a b c d e f g h : List ℕ} → a ≡ e → b ≡ f → c ≡ g → d ≡ h → woven a b c d ≡ woven e f g h
woven_same p q r s = rw (p, q, r, s) refl

-- if each lane of w is GB on that lane of v, the words of w are GB on the columns of those of v
pub columns_are : (v w : List (List ℕ)) → ((j : ℕ) → j < 4 → vector_lane w j ≡ gb (vector_lane v j))
    → vector_words w ≡ on_columns (vector_words v)
unfolding vector_words on_columns
columns_are v w each = search (rules, woven_same)

-- both halves are GB
pub halves_are : (u v w : List (List ℕ)) → AreHalves 32 24 u v → AreHalves 16 63 v w
    → (j : ℕ) → j < 4 → vector_lane w j ≡ gb (vector_lane u j)
unfolding gb
halves_are u v w first second j below = second j below ∙ ap (half_gb 16 63) (first j below)
