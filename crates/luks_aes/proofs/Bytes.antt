-- Facts about every number below a bound that are computed at each of them; the tables of the S-box and its inverse.
use Rattle.std.proofs.Common.{◌≡◌, ℕ, zero, suc, ◌+◌, ◌<◌, ◌≤◌, Bool, true, eqb, ltb, List, [], ◌∷◌, slice_index, Some}
use Rattle.std.proofs.Common.{inl, inr, arith, refl, sym, ◌∙◌, ap}
use Rattle.std.specs.List.{find, list_all, range_with_len}
use Rattle.std.specs.Option.{unwrap_or}
use Rattle.std.proofs.lemmas.Bool.{agree_below, agree_below_at, eqb-true, eq-eqb, ltb-true, and_parts, cases_Bool}
use Rattle.std.proofs.lemmas.Bool.{cases_lt, false≢true}
use Rattle.luks_aes.specs.Field.{◌•◌, product_of_bits, times_x, inverse, the_element}
use Rattle.luks_aes.specs.Aes.{sbox, inv_sbox}
use Rattle.luks_aes.specs.declared.sbox.TheConstants.{SBOX, INV_SBOX}

-- two functions agree below n; if n is a literal, computation shows it
pub same_below : (f g : ℕ → ℕ) (n : ℕ) → agree_below (λ b. eqb (f b) (g b)) (λ b. true) n ≡ true
    → (b : ℕ) → b < n → f b ≡ g b
same_below f g n all b low = eqb-true (f b) (g b) (agree_below_at (λ b. eqb (f b) (g b)) (λ b. true) n b all low)

-- a search finds the only number that passes the test
find_only : (p : ℕ → Bool) (x a n : ℕ) → a ≤ x → x < a + n → p x ≡ true
    → ((k : ℕ) → k < a + n → p k ≡ true → k ≡ x) → find p (range_with_len a n) ≡ Some x
find_only p x a zero from below passes only = absurd (omega arith)
find_only p x a (suc n) from below passes only =
    elim (cases_Bool (p a)) [
      | inl here ↦
          let e : a ≡ x = only a (omega arith) here in
          rw here (ap Some e)
      | inr other ↦
          let rest : find p (range_with_len (a + 1) n) ≡ Some x =
          elim (cases_lt a x) [
            | inl more ↦ find_only p x (a + 1) n (omega arith) (omega arith) passes (λ k low. only k (omega arith))
            | inr no_more ↦ let e : a ≡ x = omega arith in absurd (false≢true (sym other ∙ ap p e ∙ passes))
          ] in
          rw other rest
    ]

-- the only element that passes a test is the one that `the_element` gives
pub the_element_is : (p : ℕ → Bool) (x : ℕ) → x < 256 → p x ≡ true
    → ((k : ℕ) → k < 256 → p k ≡ true → k ≡ x) → the_element p ≡ x
the_element_is p x below passes only =
    ap (λ o. unwrap_or o 0) (find_only p x 0 256 (omega arith) (omega arith) passes (λ k low. only k (omega arith)))

-- the elements of a list are bytes, and so is the 0 that is read past its end
pub below_256 : (xs : List ℕ) → list_all (λ x. ltb x 256) xs ≡ true → (i : ℕ) → slice_index xs i < 256
below_256 [] all i = omega arith
below_256 (x ∷ xs) all zero = ltb-true x 256 (and_parts (ltb x 256) (list_all (λ x. ltb x 256) xs) all).0
below_256 (x ∷ xs) all (suc i) = below_256 xs (and_parts (ltb x 256) (list_all (λ x. ltb x 256) xs) all).1 i

-- ---- what holds at each of a few numbers, listed one by one

first_four : (P : ℕ → Type 0) (n : ℕ) → P 0 → P 1 → P 2 → P 3 → ((k : ℕ) → k < n → P (suc (suc (suc (suc k)))))
    → (k : ℕ) → k < n + 4 → P k
first_four P n p q r s rest zero low = p
first_four P n p q r s rest (suc zero) low = q
first_four P n p q r s rest (suc (suc zero)) low = r
first_four P n p q r s rest (suc (suc (suc zero))) low = s
first_four P n p q r s rest (suc (suc (suc (suc k)))) low = rest k (omega arith)

pub each_below_4 : (P : ℕ → Type 0) → P 0 → P 1 → P 2 → P 3 → (k : ℕ) → k < 4 → P k
each_below_4 P p q r s = first_four P 0 p q r s (λ k none. absurd (omega arith))

pub each_below_8 : (P : ℕ → Type 0) → P 0 → P 1 → P 2 → P 3 → P 4 → P 5 → P 6 → P 7 → (k : ℕ) → k < 8 → P k
each_below_8 P p q r s t u v w = first_four P 4 p q r s (each_below_4 (λ k. P (suc (suc (suc (suc k))))) t u v w)

pub listed_below_8 : (P : ℕ → Type 0) → ((k : ℕ) → k < 8 → P k) → P 0 × P 1 × P 2 × P 3 × P 4 × P 5 × P 6 × P 7
listed_below_8 P each = (
  each 0 (omega arith),
  each 1 (omega arith),
  each 2 (omega arith),
  each 3 (omega arith),
  each 4 (omega arith),
  each 5 (omega arith),
  each 6 (omega arith),
  each 7 (omega arith),
)

pub each_below_16 : (P : ℕ → Type 0) → P 0 → P 1 → P 2 → P 3 → P 4 → P 5 → P 6 → P 7 → P 8 → P 9 → P 10 → P 11 → P 12
    → P 13 → P 14 → P 15 → (k : ℕ) → k < 16 → P k
each_below_16 P a b c d e f g h p q r s t u v w =
    first_four P 12 a b c d (first_four (λ k. P (suc (suc (suc (suc k))))) 8 e f g h
    (each_below_8 (λ k. P (suc (suc (suc (suc (suc (suc (suc (suc k))))))))) p q r s t u v w))

-- ---- the tables of the S-box and of its inverse have the definitions' values

-- each entry of the S-box is the affine map of the field's inverse
pub sbox_entry : (b : ℕ) → b < 256 → slice_index SBOX b ≡ sbox b
unfolding sbox inverse ◌•◌ product_of_bits times_x
sbox_entry = same_below (slice_index SBOX) sbox 256 refl

-- the two tables undo each other
pub there_and_back : (b : ℕ) → b < 256 → slice_index SBOX (slice_index INV_SBOX b) ≡ b
there_and_back = same_below (λ b. slice_index SBOX (slice_index INV_SBOX b)) (λ b. b) 256 refl

pub back_and_there : (a : ℕ) → a < 256 → slice_index INV_SBOX (slice_index SBOX a) ≡ a
back_and_there = same_below (λ a. slice_index INV_SBOX (slice_index SBOX a)) (λ a. a) 256 refl

-- the entries are bytes
inv_entry_below : (b : ℕ) → slice_index INV_SBOX b < 256
inv_entry_below = below_256 INV_SBOX refl

-- entry b of the inverse S-box is the byte that the S-box maps to b
pub inv_sbox_entry : (b : ℕ) → b < 256 → slice_index INV_SBOX b ≡ inv_sbox b
unfolding inv_sbox
inv_sbox_entry b low =
    let a = slice_index INV_SBOX b in
    let there : sbox a ≡ b = sym (sbox_entry a (inv_entry_below b)) ∙ there_and_back b low in
    sym (the_element_is (λ k. eqb (sbox k) b) a (inv_entry_below b) (eq-eqb (sbox a) b there)
    (λ k fits same.
    let e : slice_index SBOX k ≡ b = sbox_entry k fits ∙ eqb-true (sbox k) b same in
    sym (back_and_there k fits) ∙ ap (slice_index INV_SBOX) e))

-- the inverse S-box, read from its table
abbrev pub inv_sbox_in_table : ℕ → ℕ
inv_sbox_in_table b = slice_index INV_SBOX b

pub inv_sbox_byte : (b : ℕ) → b < 256 → inv_sbox b < 256
inv_sbox_byte b low = rw (← inv_sbox_entry b low) (inv_entry_below b)
