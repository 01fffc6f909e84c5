-- Words of 64 bits, bit by bit: shifts, rotations, and runs of bits that two words exchange.
use Rattle.std.proofs.lemmas.Grind.{common_steps}
use Rattle.std.proofs.Common.{◌≡◌, ℕ, ◌+◌, ◌-◌, ◌*◌, ◌/◌, ◌%◌, ◌^◌, ◌<◌, ◌≤◌, Bool, true, false, not, cond, eqb}
use Rattle.std.proofs.Common.{List, [], ◌∷◌, length, arith, refl, sym, ap, ◌∙◌, inl, inr, min, Fits, w64}
use Rattle.std.specs.Prelude.{slice_index}
use Rattle.std.specs.Int.{bit_at}
use Rattle.std.specs.Int.Bits.{bit_xor, bit_and}
use Rattle.std.specs.Simd.Lanes.{zip2, Each1}
use Rattle.std.proofs.lemmas.Simd.{get_or-zip2, length-zip2, get_or-replicate}
use Rattle.std.proofs.lemmas.Nat.{pow-add, pow_pos}
use Rattle.std.proofs.lemmas.Nat.Bits.{bit_at_xor, bit_at_and, bit_at-lt, bit_at_above, bit_at_cat_low, bit_at_cat_high}
use Rattle.std.proofs.lemmas.Nat.Bits.{bit_at-zero}
use Rattle.std.proofs.lemmas.Bool.{agree_below_at, cases_lt, cases_Bool, eqb-true, false≢true}
use Rattle.std.proofs.Math.Nat.{div-div-eq-div-mul}
use Rattle.luks_aes.proofs.Bytes.{same_below, each_below_8}
use Rattle.luks_aes.specs.Runs.{run_bits, low_mask, swapped_low, swapped_high}
use Rattle.luks_aes.specs.declared.batch.transpose.Run.{Run}
use Rattle.luks_aes.specs.declared.batch.transpose.Run.TheVariants.{Bit, Pair, Nibble}

-- ---- shifts

-- a shift to the right
bit_shr : (w n q : ℕ) → bit_at (w / 2 ^ n) q ≡ bit_at w (n + q)
bit_shr w n q = ap (λ m. m % 2) (div-div-eq-div-mul w (2 ^ n) (2 ^ q)) ∙ ap (λ m. w / m % 2) (sym (pow-add 2 n q))

-- a number modulo 2 ^ 64 has its lowest 64 bits
bit_low : (x q : ℕ) → q < 64 → bit_at (x % 2 ^ 64) q ≡ bit_at x q
bit_low x q low =
    let whole : x / 2 ^ 64 * 2 ^ 64 + x % 2 ^ 64 ≡ x = omega arith in
    sym (bit_at_cat_low (x / 2 ^ 64) 64 (x % 2 ^ 64) q low) ∙ ap (λ m. bit_at m q) whole

-- a shift to the left: zeros, and above them the word's bits
bit_shl_low : (w n q : ℕ) → q < 64 → q < n → bit_at (w * 2 ^ n % 2 ^ 64) q ≡ 0
bit_shl_low w n q low under =
    let sum : w * 2 ^ n + 0 ≡ w * 2 ^ n = omega arith in
    bit_low (w * 2 ^ n) q low ∙ sym (ap (λ m. bit_at m q) sum) ∙ bit_at_cat_low w n 0 q under ∙ bit_at-zero q

bit_shl_high : (w n q : ℕ) → q < 64 → n ≤ q → bit_at (w * 2 ^ n % 2 ^ 64) q ≡ bit_at w (q - n)
bit_shl_high w n q low above =
    let sum : w * 2 ^ n + 0 ≡ w * 2 ^ n = omega arith in
    bit_low (w * 2 ^ n) q low ∙ sym (ap (λ m. bit_at m q) sum) ∙ bit_at_cat_high w n 0 q (pow_pos n) above

-- ---- rotations

-- a word rotated by n bits to the left
pub bit_rotated : (w n m q : ℕ) → w < 2 ^ 64 → n + m ≡ 64 → q < 64
    → bit_at (bit_xor (w * 2 ^ n % 2 ^ 64) (w / 2 ^ m)) q ≡ bit_at w ((q + 64 - n) % 64)
bit_rotated w n m q fits whole low =
    let l = w * 2 ^ n % 2 ^ 64 in
    bit_at_xor l (w / 2 ^ m) q
    ∙ elim (cases_lt q n) [
      | inl under ↦ grind (arith, common_steps, bit_at-lt, bit_shl_low, bit_shr)
      | inr above ↦
          let index : q - n ≡ (q + 64 - n) % 64 = omega arith in
          let bit = bit_at-lt w (q - n) in
          let left = bit_shl_high w n q low above in
          let zero = bit_shr w m q ∙ bit_at_above w 64 (m + q) fits (omega arith) in
          let all : (bit_at l q + bit_at (w / 2 ^ m) q) % 2 ≡ bit_at w (q - n) =
          ap (λ b. (b + bit_at (w / 2 ^ m) q) % 2) left ∙ ap (λ b. (bit_at w (q - n) + b) % 2) zero ∙ omega arith in
          all ∙ ap (bit_at w) index
    ]

-- the words of a vector, all rotated by n bits to the left
abbrev rotated_words : List ℕ → ℕ → ℕ → List ℕ
rotated_words v n m =
    zip2 bit_xor (zip2 (λ x k. x * 2 ^ k % 2 ^ 64) v (n ∷ n ∷ [])) (zip2 (λ x k. x / 2 ^ k) v (m ∷ m ∷ []))

rotated_word : (v : List ℕ) (n m l : ℕ) → length v ≡ 2 → l < 2
    → slice_index (rotated_words v n m) l
    ≡ bit_xor (slice_index v l * 2 ^ n % 2 ^ 64) (slice_index v l / 2 ^ m)
rotated_word v n m l long low =
    let left = zip2 (λ x k. x * 2 ^ k % 2 ^ 64) v (n ∷ n ∷ []) in
    let right = zip2 (λ x k. x / 2 ^ k) v (m ∷ m ∷ []) in
    let index : (k : ℕ) → slice_index (k ∷ k ∷ []) l ≡ k = λ k. get_or-replicate 2 l k 0 low in
    let lefts : length left ≡ 2 = length-zip2 _ v (n ∷ n ∷ []) long ∙ long in
    let rights : length right ≡ 2 = length-zip2 _ v (m ∷ m ∷ []) long ∙ long in
    get_or-zip2 bit_xor left right l 0 0 0 (omega arith) (omega arith)
    ∙ (λ i. bit_xor
    ((get_or-zip2 (λ x k. x * 2 ^ k % 2 ^ 64) v (n ∷ n ∷ []) l 0 0 0 (omega arith) low
    ∙ ap (λ k. slice_index v l * 2 ^ k % 2 ^ 64) (index n)) i)
    ((get_or-zip2 (λ x k. x / 2 ^ k) v (m ∷ m ∷ []) l 0 0 0 (omega arith) low
    ∙ ap (λ k. slice_index v l / 2 ^ k) (index m)) i))

pub bit_rotated_words : (v : List ℕ) (n m l q : ℕ) → length v ≡ 2 → Each1 (Fits w64) v → n + m ≡ 64 → l < 2 → q < 64
    → bit_at (slice_index (rotated_words v n m) l) q ≡ bit_at (slice_index v l) ((q + 64 - n) % 64)
bit_rotated_words v n m l q long fits whole low small = grind (arith, common_steps, rotated_word, bit_rotated)

-- ---- runs

-- bit q of the mask of a run
mask_bit : (r : Run) (q : ℕ) → q < 64 → bit_at (low_mask r) q ≡ cond (eqb (q / run_bits r % 2) 0) 1 0
mask_bit Bit = same_below (bit_at (low_mask Bit)) (λ q. cond (eqb (q / 1 % 2) 0) 1 0) 64 refl
mask_bit Pair = same_below (bit_at (low_mask Pair)) (λ q. cond (eqb (q / 2 % 2) 0) 1 0) 64 refl
mask_bit Nibble = same_below (bit_at (low_mask Nibble)) (λ q. cond (eqb (q / 4 % 2) 0) 1 0) 64 refl

-- the bits that differ between the upper runs of a, moved down, and the lower runs of b
abbrev moved : Run → ℕ → ℕ → ℕ
moved r a b = bit_and (bit_xor (a / 2 ^ run_bits r) b) (low_mask r)

kept : (t : Bool) (u : ℕ) → u < 2 → min u (cond t 1 0) ≡ cond t u 0
kept true u low = omega arith
kept false u low = omega arith

moved_bit : (r : Run) (a b q : ℕ) → q < 64
    → bit_at (moved r a b) q ≡ cond (eqb (q / run_bits r % 2) 0) ((bit_at a (run_bits r + q) + bit_at b q) % 2) 0
moved_bit r a b q low =
    let n = run_bits r in
    let x = bit_xor (a / 2 ^ n) b in
    bit_at_and x (low_mask r) q
    ∙ ap (min (bit_at x q)) (mask_bit r q low)
    ∙ kept (eqb (q / n % 2) 0) (bit_at x q) (bit_at-lt x q)
    ∙ ap (λ u. cond (eqb (q / n % 2) 0) u 0)
    (bit_at_xor (a / 2 ^ n) b q ∙ ap (λ u. (u + bit_at b q) % 2) (bit_shr a n q))

-- bit q is in a lower run, as a test
abbrev in_low : Run → ℕ → Bool
in_low r q = eqb (q / run_bits r % 2) 0

-- the lowest run is a lower one
lowest_run : (r : Run) (q : ℕ) → q < run_bits r → in_low r q ≡ true
lowest_run r q low = grind (arith, common_steps, agree_below_at)

-- above a lower run there is an upper one, and the other way round
next_run : (r : Run) (q : ℕ) → q < 64 → in_low r q ≡ not (in_low r (run_bits r + q))
next_run r q low = grind (arith, common_steps, agree_below_at)

-- the XOR with a difference makes one bit the other
changed_upper : (t : Bool) (u w : ℕ) → u < 2 → w < 2 → (u + cond (not t) ((u + w) % 2) 0) % 2 ≡ cond t u w
changed_upper true u w x y = omega arith
changed_upper false u w x y = omega arith

changed_lower : (t : Bool) (u w : ℕ) → u < 2 → w < 2 → (w + cond t ((u + w) % 2) 0) % 2 ≡ cond t u w
changed_lower true u w x y = omega arith
changed_lower false u w x y = omega arith

pub exchanged_low : (r : Run) (a b q : ℕ) → q < 64
    → bit_at (bit_xor a (moved r a b * 2 ^ run_bits r % 2 ^ 64)) q
    ≡ swapped_low (run_bits r) (bit_at a) (bit_at b) q
exchanged_low r a b q low =
    let n = run_bits r in
    let m = moved r a b * 2 ^ n % 2 ^ 64 in
    let bit = bit_at-lt a q in
    bit_at_xor a m q
    ∙ elim (cases_lt q n) [
      | inl under ↦
          let same : (bit_at a q + 0) % 2 ≡ bit_at a q = omega arith in
          ap (λ u. (bit_at a q + u) % 2) (bit_shl_low (moved r a b) n q low under)
          ∙ same
          ∙ sym (ap (λ t. cond t (bit_at a q) (bit_at b (q - n))) (lowest_run r q under))
      | inr above ↦
          let index : n + (q - n) ≡ q = omega arith in
          let t = in_low r q in
          let other : in_low r (q - n) ≡ not t =
          next_run r (q - n) (omega arith) ∙ ap (λ k. not (in_low r k)) index in
          ap (λ u. (bit_at a q + u) % 2)
          (bit_shl_high (moved r a b) n q low above
          ∙ moved_bit r a b (q - n) (omega arith)
          ∙ ap (λ k. cond (in_low r (q - n)) ((bit_at a k + bit_at b (q - n)) % 2) 0) index
          ∙ ap (λ k. cond k ((bit_at a q + bit_at b (q - n)) % 2) 0) other)
          ∙ changed_upper t (bit_at a q) (bit_at b (q - n)) bit (bit_at-lt b (q - n))
    ]

pub exchanged_high : (r : Run) (a b q : ℕ) → q < 64
    → bit_at (bit_xor b (moved r a b)) q ≡ swapped_high (run_bits r) (bit_at a) (bit_at b) q
exchanged_high r a b q low =
    let n = run_bits r in
    let index : n + q ≡ q + n = omega arith in
    grind (arith, common_steps, bit_at_xor, moved_bit, changed_lower, bit_at-lt)

-- ---- bits by bytes

-- bit k of byte p of the word w is f p k
pub record HasBits (f : ℕ → ℕ → ℕ) (w : ℕ) : Type 0 where
  pub at : (p k : ℕ) → p < 8 → k < 8 → bit_at w (8 * p + k) ≡ f p k

pub bits_also : {f : ℕ → ℕ → ℕ} (g : ℕ → ℕ → ℕ) {w : ℕ} → HasBits f w
    → ((p : ℕ) → (k : ℕ) → k < 8 → f p k ≡ g p k) → HasBits g w
bits_also g is same = record { at = λ p k low small. is.at p k low small ∙ same p k small }

pub equal_below_8 : (f g : ℕ → ℕ) → f 0 ≡ g 0 → f 1 ≡ g 1 → f 2 ≡ g 2 → f 3 ≡ g 3 → f 4 ≡ g 4 → f 5 ≡ g 5 → f 6 ≡ g 6
    → f 7 ≡ g 7 → (k : ℕ) → k < 8 → f k ≡ g k
equal_below_8 f g = each_below_8 (λ k. f k ≡ g k)

-- a run lies within a byte
in_byte : (r : Run) (p k : ℕ) → p < 8 → k < 8 → in_low r (8 * p + k) ≡ in_low r k
in_byte r p k low small = grind (arith, common_steps)

above : (r : Run) (k : ℕ) → k < 8 → k / run_bits r % 2 ≡ 0 → k + run_bits r < 8
above r k small even = grind (arith, common_steps)

-- in each byte, there is an upper run above each lower run, and a lower run below each upper run
run_above : (r : Run) (k : ℕ) → k < 8 → in_low r k ≡ true → k + run_bits r < 8
run_above r k small even = grind (arith, common_steps, eqb-true, above)

run_below : (r : Run) (k : ℕ) → k < 8 → in_low r k ≡ false → run_bits r ≤ k
run_below r k small odd = elim (cases_lt k (run_bits r)) [
  | inl under ↦ absurd (false≢true (sym odd ∙ lowest_run r k under))
  | inr above ↦ above
]

pub bits_low : (r : Run) {f g : ℕ → ℕ → ℕ} {a b w : ℕ} → HasBits f a → HasBits g b
    → ((q : ℕ) → q < 64 → bit_at w q ≡ swapped_low (run_bits r) (bit_at a) (bit_at b) q)
    → HasBits (λ p k. cond (in_low r k) (f p k) (g p (k - run_bits r))) w
bits_low r {f} {g} {a} {b} {w} first second is = record {
  at = λ p k low small.
      let n = run_bits r in
      is (8 * p + k) (omega arith)
      ∙ ap (λ t. cond t (bit_at a (8 * p + k)) (bit_at b (8 * p + k - n))) (in_byte r p k low small)
      ∙ elim (cases_Bool (in_low r k)) [
        | inl even ↦ rw even (first.at p k low small)
        | inr odd ↦ grind (arith, common_steps, run_below)
      ];
}

pub bits_high : (r : Run) {f g : ℕ → ℕ → ℕ} {a b w : ℕ} → HasBits f a → HasBits g b
    → ((q : ℕ) → q < 64 → bit_at w q ≡ swapped_high (run_bits r) (bit_at a) (bit_at b) q)
    → HasBits (λ p k. cond (in_low r k) (f p (k + run_bits r)) (g p k)) w
bits_high r {f} {g} {a} {b} {w} first second is = record {
  at = λ p k low small.
      let n = run_bits r in
      is (8 * p + k) (omega arith)
      ∙ ap (λ t. cond t (bit_at a (8 * p + k + n)) (bit_at b (8 * p + k))) (in_byte r p k low small)
      ∙ elim (cases_Bool (in_low r k)) [
        | inl even ↦
            let above = run_above r k small even in
            let index : 8 * p + k + n ≡ 8 * p + (k + n) = omega arith in
            rw even (ap (bit_at a) index ∙ first.at p (k + n) low above)
        | inr odd ↦ rw odd (second.at p k low small)
      ];
}

-- ---- a transposition

-- the words of a list have their own bits
abbrev own : List ℕ → ℕ → ℕ → ℕ → ℕ
own x j p k = bit_at (slice_index x j) (8 * p + k)

pub own_bits : (x : List ℕ) (j : ℕ) → HasBits (own x j) (slice_index x j)
own_bits x j = record { at = λ p k low small. refl }

-- the bits of word j after the transposition
abbrev pub turned : List ℕ → ℕ → ℕ → ℕ → ℕ
turned x j p k = own x k p j

pub transposed_if : (x : List ℕ) (a b c d e f g h : ℕ) → HasBits (turned x 0) a → HasBits (turned x 1) b
    → HasBits (turned x 2) c → HasBits (turned x 3) d → HasBits (turned x 4) e → HasBits (turned x 5) f
    → HasBits (turned x 6) g → HasBits (turned x 7) h
    → (j p k : ℕ) → j < 8 → p < 8 → k < 8
    → bit_at (slice_index (a ∷ b ∷ c ∷ d ∷ e ∷ f ∷ g ∷ h ∷ []) j) (8 * p + k)
    ≡ bit_at (slice_index x k) (8 * p + j)
transposed_if x a b c d e f g h p0 p1 p2 p3 p4 p5 p6 p7 j p k inside low small =
    (each_below_8 (λ j. HasBits (turned x j) (slice_index (a ∷ b ∷ c ∷ d ∷ e ∷ f ∷ g ∷ h ∷ []) j)) p0 p1 p2 p3 p4 p5 p6
    p7 j inside).at p k low small
