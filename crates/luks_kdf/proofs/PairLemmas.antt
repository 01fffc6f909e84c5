-- Rotations of 64-bit words, and the rounds of SHA-512 with the words of the schedule in pairs.
use Rattle.std.proofs.Common.{◌≡◌, ℕ, ◌+◌, ◌-◌, ◌*◌, ◌/◌, ◌%◌, ◌^◌, ◌<◌, ◌≤◌, List, [], ◌∷◌, length, refl, sym, ap, ◌∙◌}
use Rattle.std.proofs.Common.{arith, bit_or, bit_xor, add_comm, subst, inl, inr, shr-shr}
use Rattle.std.proofs.lemmas.Bool.{cases_lt}
use Rattle.std.proofs.lemmas.Nat.{or_lt, shr_below, shr_le, shr_split, xor_lt}
use Rattle.std.proofs.lemmas.Nat.Bits.{bit_at_cat_high, bit_at_cat_low, bit_at_xor, same_from_bits_below}
use Rattle.std.specs.Prelude.{slice_index, slice_set}
use Rattle.std.specs.Int.{bit_at}
use Rattle.std.specs.Int.Bits.{or_shifted_r, xor_assoc}
use Rattle.std.specs.Simd.Lanes.{zip2}
use Rattle.sha2.specs.Sha512.{IsWindow, add64, round, round_constants, rounds, schedule, small_sigma0}
use Rattle.sha2.specs.Sha512.{small_sigma1, window_word}
use Rattle.sha2.proofs.Schedule512.{IsWindow_first, IsWindow_next, rounds_next, window_word_at, window_word_place}
use Rattle.luks_kdf.specs.Pairs.{ArePairs, word_in, words}
use Rattle.luks_kdf.proofs.LaneLemmas.{below_eight, below_two, shifted, shl_low, two_lanes}

-- ---- rotation to the right by k bits of a word of 64 bits

abbrev pub rotated : ℕ → ℕ → ℕ
rotated x k = bit_or (x / 2 ^ k) (x * 2 ^ (64 - k) % 2 ^ 64)

rotated_lt : (x k : ℕ) → x < 2 ^ 64 → rotated x k < 2 ^ 64
rotated_lt x k fits = or_lt 64 (x / 2 ^ k) (x * 2 ^ (64 - k) % 2 ^ 64) (omega (arith, shr_le x k)) (omega arith)

-- bit i of the rotated word is bit i + k of the word, counted around its end
rotated_bit : (x k i : ℕ) → k ≤ 64 → x < 2 ^ 64 → i < 64 → bit_at (rotated x k) i ≡ bit_at x ((i + k) % 64)
rotated_bit x k i le fits below =
    let j : ℕ = 64 - k in
    let whole : 64 ≡ k + j = omega arith in
    let small : x / 2 ^ k < 2 ^ j = shr_below x j k (subst (λ (n : ℕ). x < 2 ^ n) (whole ∙ add_comm k j) fits) in
    let moved : x * 2 ^ j % 2 ^ 64 ≡ x % 2 ^ k * 2 ^ j = ap (λ (n : ℕ). x * 2 ^ j % 2 ^ n) whole ∙ shl_low x k j in
    let parts : rotated x k ≡ x % 2 ^ k * 2 ^ j + x / 2 ^ k =
    ap (bit_or (x / 2 ^ k)) moved ∙ or_shifted_r (x % 2 ^ k) j (x / 2 ^ k) small in
    ap (λ (n : ℕ). bit_at n i) parts ∙ elim (cases_lt i j) [
      | inl low ↦
          let at : k + i ≡ (i + k) % 64 = omega arith in
          bit_at_cat_low (x % 2 ^ k) j (x / 2 ^ k) i low ∙ ap (λ (n : ℕ). n % 2) (shr-shr x k i)
          ∙ ap (bit_at x) at
      | inr high ↦
          let at : i - j ≡ (i + k) % 64 = omega arith in
          bit_at_cat_high (x % 2 ^ k) j (x / 2 ^ k) i small high
          ∙ sym (bit_at_cat_low (x / 2 ^ k) k (x % 2 ^ k) (i - j) (omega arith))
          ∙ ap (λ (n : ℕ). bit_at n (i - j)) (shr_split x k) ∙ ap (bit_at x) at
    ]

rotated-xor : (x y k : ℕ) → k ≤ 64 → x < 2 ^ 64 → y < 2 ^ 64
    → rotated (bit_xor x y) k ≡ bit_xor (rotated x k) (rotated y k)
rotated-xor x y k le fx fy =
    let both = xor_lt 64 x y fx fy in
    same_from_bits_below 64 _ _ (rotated_lt (bit_xor x y) k both)
    (xor_lt 64 _ _ (rotated_lt x k fx) (rotated_lt y k fy)) (λ i below.
    rw (
      rotated_bit (bit_xor x y) k i le both below,
      bit_at_xor x y ((i + k) % 64),
      bit_at_xor (rotated x k) (rotated y k) i,
      rotated_bit x k i le fx below,
      rotated_bit y k i le fy below,
    ) refl)

rotated-rotated : (x k m : ℕ) → k + m ≤ 64 → x < 2 ^ 64 → rotated (rotated x m) k ≡ rotated x (k + m)
rotated-rotated x k m le fits =
    same_from_bits_below 64 _ _ (rotated_lt (rotated x m) k (rotated_lt x m fits)) (rotated_lt x (k + m) fits)
    (λ i below.
    let at : ((i + k) % 64 + m) % 64 ≡ (i + (k + m)) % 64 = omega arith in
    rotated_bit (rotated x m) k i (omega arith) (rotated_lt x m fits) below
    ∙ rotated_bit x m ((i + k) % 64) (omega arith) fits (omega arith)
    ∙ ap (bit_at x) at ∙ sym (rotated_bit x (k + m) i le fits below))

-- three rotations of a word under XOR, each inside the one before
pub nested_three : (x k l m : ℕ) → k + (l + m) ≤ 64 → x < 2 ^ 64
    → rotated (bit_xor x (rotated (bit_xor x (rotated x m)) l)) k
    ≡ bit_xor (bit_xor (rotated x k) (rotated x (k + l))) (rotated x (k + (l + m)))
nested_three x k l m le fits =
    let inner = bit_xor x (rotated x m) in
    let fit : inner < 2 ^ 64 = xor_lt 64 x (rotated x m) fits (rotated_lt x m fits) in
    let near = rotated-xor x (rotated x m) (k + l) (omega arith) fits (rotated_lt x m fits) in
    let far = rotated-rotated x (k + l) m (omega arith) fits in
    let sum : k + l + m ≡ k + (l + m) = omega arith in
    rotated-xor x (rotated inner l) k (omega arith) fits (rotated_lt inner l fit)
    ∙ ap (bit_xor (rotated x k)) (rotated-rotated inner k l (omega arith) fit
    ∙ (near ∙ ap (bit_xor (rotated x (k + l))) (far ∙ ap (rotated x) sum)))
    ∙ sym (xor_assoc (rotated x k) (rotated x (k + l)) (rotated x (k + (l + m))))

-- ---- pairs of words

-- each word of a pair rotated to the right by k bits
abbrev rotated_pair : List ℕ → ℕ → List ℕ
rotated_pair x k = zip2 bit_or (shifted x k) (zip2 (λ (a n : ℕ). a * 2 ^ n % 2 ^ 64) x ((64 - k) ∷ (64 - k) ∷ []))

-- each word of a pair rotated by k bits, by m bits and shifted by n bits, under XOR, is f of the word
abbrev IsSmallSigma : ℕ → ℕ → ℕ → (ℕ → ℕ) → List ℕ → Type 0
IsSmallSigma k m n f x = (j : ℕ) → j < 2
    → slice_index (zip2 bit_xor (zip2 bit_xor (rotated_pair x k) (rotated_pair x m)) (shifted x n)) j
    ≡ f (slice_index x j)

pub pair_sigma : (k m n : ℕ) (f : ℕ → ℕ)
    → ((a : ℕ) → bit_xor (bit_xor (rotated a k) (rotated a m)) (a / 2 ^ n) ≡ f a)
    → (x : List ℕ) → length x ≡ 2 → IsSmallSigma k m n f x
pair_sigma k m n f law = two_lanes (IsSmallSigma k m n f) (λ a b. below_two _ (law a) (law b))

-- the words of a pair, among those of all
pub pair_word : (w : List (List ℕ)) (i : ℕ) → i < 8 → (j : ℕ) → j < 2
    → slice_index (words w) (2 * i + j) ≡ word_in w i j
unfolding words
pair_word w = below_eight (λ i. (j : ℕ) → j < 2 → slice_index (words w) (2 * i + j) ≡ word_in w i j)
    (below_two _ refl refl) (below_two _ refl refl) (below_two _ refl refl) (below_two _ refl refl)
    (below_two _ refl refl) (below_two _ refl refl) (below_two _ refl refl) (below_two _ refl refl)

-- word j of the pair at index i, after the words seven and fifteen before it are given
abbrev next_of : List (List ℕ) → ℕ → ℕ → ℕ → ℕ → ℕ
next_of w i j seventh fifteenth =
    add64 (add64 (add64 (small_sigma1 (word_in w ((i + 7) % 8) j)) seventh) (small_sigma0 fifteenth)) (word_in w i j)

abbrev FirstIs : List (List ℕ) → ℕ → Type 0
FirstIs w i = next_of w i 0 (word_in w ((i + 4) % 8) 1) (word_in w i 1) ≡ window_word (words w) (2 * i + 0)

pub next_first : (w : List (List ℕ)) (i : ℕ) → i < 8 → FirstIs w i
unfolding words
next_first w = below_eight (FirstIs w) refl refl refl refl refl refl refl refl

abbrev SecondIs : List (List ℕ) → ℕ → Type 0
SecondIs w i =
    next_of w i 1 (word_in w ((i + 5) % 8) 0) (word_in w ((i + 1) % 8) 0) ≡ window_word (words w) (2 * i + 1)

pub next_second : (w : List (List ℕ)) (i : ℕ) → i < 8 → SecondIs w i
unfolding words
next_second w = below_eight (SecondIs w) refl refl refl refl refl refl refl refl

-- the second word of the next pair is the same before and after the first is stored
second_after_first : (w : List (List ℕ)) (x i : ℕ) → i < 8
    → window_word (slice_set (words w) (2 * i) x) (2 * i + 1) ≡ window_word (words w) (2 * i + 1)
unfolding words
second_after_first w x = below_eight
    (λ i. window_word (slice_set (words w) (2 * i) x) (2 * i + 1) ≡ window_word (words w) (2 * i + 1))
    refl refl refl refl refl refl refl refl

-- to store a pair is to store its words, one after the other
abbrev StoresWords : List (List ℕ) → List ℕ → ℕ → Type 0
StoresWords w p i = words (slice_set w i p)
    ≡ slice_set (slice_set (words w) (2 * i) (slice_index p 0)) (2 * i + 1) (slice_index p 1)

stores_words : (w : List (List ℕ)) → length w ≡ 8 → (p : List ℕ) (i : ℕ) → i < 8 → StoresWords w p i
unfolding words
stores_words (a ∷ b ∷ c ∷ d ∷ e ∷ f ∷ g ∷ h ∷ []) long p i below =
    below_eight (StoresWords (a ∷ b ∷ c ∷ d ∷ e ∷ f ∷ g ∷ h ∷ []) p) refl refl refl refl refl refl refl refl i below
stores_words _ long p i below = absurd (omega arith)

-- ---- rounds

-- the words of a block are a window
pub window_of_pairs : (w : List (List ℕ)) (b : List ℕ) → ArePairs w b → IsWindow (words w) (schedule b 64) 16
unfolding words
window_of_pairs w b block = IsWindow_first b (words w) refl block

-- two more rounds
pub two_more_rounds : (h ws v next last : List ℕ) (t : ℕ) → v ≡ rounds h ws t
    → next ≡ round v (slice_index round_constants t) (slice_index ws t)
    → last ≡ round next (slice_index round_constants (t + 1)) (slice_index ws (t + 1)) → last ≡ rounds h ws (t + 2)
two_more_rounds h ws v next last t so_far is_next is_last =
    let one : next ≡ rounds h ws (t + 1) = rw (rounds_next h ws t, ← so_far) is_next in
    let two : t + 2 ≡ t + 1 + 1 = omega arith in
    rw (two, rounds_next h ws (t + 1), ← one) is_last

-- the next pair has the next two words of the schedule, and the window moves on by both
pub record IsNextPair (b : List ℕ) (w : List (List ℕ)) (p : List ℕ) (i t : ℕ) : Type 0 where
  pub scheduled : (j : ℕ) → j < 2 → slice_index p j ≡ slice_index (schedule b 64) (t + j)
  pub window : IsWindow (words (slice_set w i p)) (schedule b 64) (t + 1 + 1)

pub next_pair_at : (b : List ℕ) (w : List (List ℕ)) (p : List ℕ) (g i : ℕ) → length w ≡ 8 → 1 ≤ g → g < 5 → i < 8
    → IsWindow (words w) (schedule b 64) (16 * g + 2 * i)
    → ((j : ℕ) → j < 2 → slice_index p j ≡ window_word (words w) (2 * i + j))
    → IsNextPair b w p i (16 * g + 2 * i)
next_pair_at b w p g i long low high below window is =
    let t : ℕ = 16 * g + 2 * i in
    let ws = schedule b 64 in
    let at0 : t % 16 ≡ 2 * i = omega arith in
    let at1 : (t + 1) % 16 ≡ 2 * i + 1 = omega arith in
    let none : 2 * i + 0 ≡ 2 * i = omega arith in
    let first : slice_index p 0 ≡ slice_index ws t =
    is 0 (omega arith) ∙ (ap (window_word (words w)) none ∙ window_word_place (words w) g (2 * i))
    ∙ window_word_at b (words w) t (omega arith) (omega arith) window in
    let moved : IsWindow (slice_set (words w) (2 * i) (slice_index p 0)) ws (t + 1) =
    subst (λ (k : ℕ). IsWindow (slice_set (words w) k (slice_index p 0)) ws (t + 1)) at0
    (rw first (IsWindow_next b (words w) t (omega arith) (omega arith) window)) in
    let after = slice_set (words w) (2 * i) (slice_index p 0) in
    let sum : 16 * g + (2 * i + 1) ≡ t + 1 = omega arith in
    let second : slice_index p 1 ≡ slice_index ws (t + 1) =
    is 1 (omega arith) ∙ sym (second_after_first w (slice_index p 0) i below)
    ∙ (window_word_place after g (2 * i + 1) ∙ ap (window_word after) sum)
    ∙ window_word_at b after (t + 1) (omega arith) (omega arith) moved in
    let same : t + 0 ≡ t = omega arith in
    record {
      scheduled = below_two _ (first ∙ ap (slice_index ws) (sym same)) second;
      window = rw (stores_words w long p i below, second, ← at1)
          (IsWindow_next b after (t + 1) (omega arith) (omega arith) moved);
    }
