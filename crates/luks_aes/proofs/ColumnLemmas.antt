-- Field elements, states, words and key schedules as lists of bytes; and columns of a state as words of 32 bits.
use Rattle.std.proofs.Common.{◌≡◌, ℕ, ◌+◌, ◌-◌, ◌*◌, ◌%◌, ◌/◌, ◌^◌, ◌<◌, true, eqb, List, [], ◌∷◌, ◌++◌, arith, refl}
use Rattle.std.proofs.Common.{ap, ◌∙◌, zero, suc, Bool, false, cond, ltb, length, take, drop}
use Rattle.std.specs.Prelude.{slice_index}
use Rattle.std.specs.Int.{w32, to_le_bytes, byte_at, rotate_left}
use Rattle.std.specs.Int.Bits.{bit_xor, or_shifted, xor_shr, xor_mod, xor_lt}
use Rattle.std.proofs.lemmas.Bool.{agree_below, agree_below_at, ltb-true}
use Rattle.std.proofs.lemmas.Nat.Bits.{same_from_bits, bit_at_xor}
use Rattle.luks_aes.specs.Field.{◌⊕◌, ◌•◌, product_of_bits, times_x, power_of_x}
use Rattle.luks_aes.specs.Aes.{sbox, inv_sbox, state_of, word_of, word_xor, cell, sub_bytes, shift_rows}
use Rattle.luks_aes.specs.Aes.{multiplied_columns, add_round_key, word_at, rot_word, sub_word, round_constant}
use Rattle.luks_aes.specs.Aes.{next_word, with_next_word, words_after, key_expansion, rounds_of, state_after, cipher}
use Rattle.luks_aes.specs.Aes.{encrypted}
use Rattle.luks_aes.specs.Bytes.{IsBytes}
use Rattle.luks_aes.specs.Columns.{bytes_of_words, matrix_column, column_product, IsColumnTable}
use Rattle.luks_aes.specs.declared.sbox.TheConstants.{SBOX, INV_SBOX}
use Rattle.luks_aes.specs.declared.mix_columns.TheConstants.{MIXED_0, MIXED_1, MIXED_2, MIXED_3, INV_MIXED}
use Rattle.luks_aes.proofs.Bytes.{same_below, sbox_entry, inv_sbox_entry, below_256}

-- ---- elements of the field

pub xor_byte : (a b : ℕ) → a < 256 → b < 256 → a ⊕ b < 256
xor_byte a b p q = xor_lt 8 a b p q

pub times_x_byte : (b : ℕ) → b < 256 → times_x b < 256
unfolding times_x
times_x_byte b low = ltb-true (times_x b) 256 (agree_below_at (λ b. ltb (times_x b) 256) (λ b. true) 256 b refl low)

bit_byte : (t : Bool) (b : ℕ) → b < 256 → cond t b 0 < 256
bit_byte true b low = low
bit_byte false b low = omega arith

bits_byte : (n a b : ℕ) → b < 256 → product_of_bits n a b < 256
unfolding product_of_bits
bits_byte zero a b low = omega arith
bits_byte (suc n) a b low =
    xor_byte (cond (eqb (a % 2) 1) b 0) (product_of_bits n (a / 2) (times_x b)) (bit_byte (eqb (a % 2) 1) b low)
    (bits_byte n (a / 2) (times_x b) (times_x_byte b low))

pub product_byte : (a b : ℕ) → b < 256 → a • b < 256
unfolding ◌•◌
product_byte a b low = bits_byte 8 a b low

power_byte : (n : ℕ) → power_of_x n < 256
unfolding power_of_x
power_byte zero = omega arith
power_byte (suc n) = times_x_byte (power_of_x n) (power_byte n)

pub sbox_byte : (b : ℕ) → b < 256 → sbox b < 256
sbox_byte b low = rw (← sbox_entry b low) (below_256 SBOX refl b)

-- ---- lists

pub bytes_nil : IsBytes []
bytes_nil = record { each = λ i. omega arith }

at_cons : (x : ℕ) (xs : List ℕ) → x < 256 → IsBytes xs → (i : ℕ) → slice_index (x ∷ xs) i < 256
at_cons x xs low rest zero = low
at_cons x xs low rest (suc i) = rest.each i

pub bytes_cons : {x : ℕ} {xs : List ℕ} → x < 256 → IsBytes xs → IsBytes (x ∷ xs)
bytes_cons {x} {xs} low rest = record { each = at_cons x xs low rest }

bytes_tail : (x : ℕ) (xs : List ℕ) → IsBytes (x ∷ xs) → IsBytes xs
bytes_tail x xs all = record { each = λ i. all.each (suc i) }

pub bytes_append : (xs ys : List ℕ) → IsBytes xs → IsBytes ys → IsBytes (xs ++ ys)
bytes_append [] ys first second = second
bytes_append (x ∷ xs) ys first second =
    bytes_cons (first.each 0) (bytes_append xs ys (bytes_tail x xs first) second)

pub bytes_take : (n : ℕ) (xs : List ℕ) → IsBytes xs → IsBytes (take n xs)
bytes_take zero xs all = bytes_nil
bytes_take (suc n) [] all = bytes_nil
bytes_take (suc n) (x ∷ xs) all = bytes_cons (all.each 0) (bytes_take n xs (bytes_tail x xs all))

pub bytes_drop : (n : ℕ) (xs : List ℕ) → IsBytes xs → IsBytes (drop n xs)
bytes_drop zero xs all = all
bytes_drop (suc n) [] all = bytes_nil
bytes_drop (suc n) (x ∷ xs) all = bytes_drop n xs (bytes_tail x xs all)

pub word_bytes : (f : ℕ → ℕ) → ((k : ℕ) → f k < 256) → IsBytes (word_of f)
word_bytes f all =
    bytes_cons (all 0) (bytes_cons (all 1) (bytes_cons (all 2) (bytes_cons (all 3) bytes_nil)))

pub state_bytes : (f : ℕ → ℕ → ℕ) → ((r c : ℕ) → f r c < 256) → IsBytes (state_of f)
state_bytes f all =
    let column = λ (c : ℕ). word_bytes (λ r. f r c) (λ r. all r c) in
    bytes_append _ _ (column 0) (bytes_append _ _ (column 1) (bytes_append _ _ (column 2) (column 3)))

-- ---- the key schedule

bytes_choice : (t : Bool) (xs ys : List ℕ) → IsBytes xs → IsBytes ys → IsBytes (cond t xs ys)
bytes_choice true xs ys first second = first
bytes_choice false xs ys first second = second

word_at_bytes : (w : List ℕ) (i : ℕ) → IsBytes w → IsBytes (word_at w i)
word_at_bytes w i all = word_bytes (λ k. slice_index w (4 * i + k)) (λ k. all.each (4 * i + k))

word_xor_bytes : (a b : List ℕ) → IsBytes a → IsBytes b → IsBytes (word_xor a b)
unfolding word_xor
word_xor_bytes a b first second =
    word_bytes (λ k. slice_index a k ⊕ slice_index b k)
    (λ k. xor_byte (slice_index a k) (slice_index b k) (first.each k) (second.each k))

sub_word_bytes : (a : List ℕ) → IsBytes a → IsBytes (sub_word a)
unfolding sub_word
sub_word_bytes a all = word_bytes (λ k. sbox (slice_index a k)) (λ k. sbox_byte (slice_index a k) (all.each k))

rot_word_bytes : (a : List ℕ) → IsBytes a → IsBytes (rot_word a)
unfolding rot_word
rot_word_bytes a all = word_bytes (λ k. slice_index a ((k + 1) % 4)) (λ k. all.each ((k + 1) % 4))

constant_bytes : (j : ℕ) → IsBytes (round_constant j)
constant_bytes j =
    bytes_cons (power_byte (j - 1))
    (bytes_cons (omega arith) (bytes_cons (omega arith) (bytes_cons (omega arith) bytes_nil)))

next_word_bytes : (nk : ℕ) (w : List ℕ) (i : ℕ) → IsBytes w → IsBytes (next_word nk w i)
unfolding next_word
next_word_bytes nk w i all =
    let last = word_at_bytes w (i - 1) all in
    word_xor_bytes _ _ (word_at_bytes w (i - nk) all)
    (bytes_choice (eqb (i % nk) 0) _ _
    (word_xor_bytes _ _ (sub_word_bytes _ (rot_word_bytes _ last)) (constant_bytes (i / nk)))
    (bytes_choice _ _ _ (sub_word_bytes _ last) last))

words_bytes : (nk : ℕ) (key : List ℕ) (n : ℕ) → IsBytes key → IsBytes (words_after nk key n)
unfolding words_after with_next_word
words_bytes nk key zero all = all
words_bytes nk key (suc n) all =
    let before = words_bytes nk key n all in
    bytes_append _ _ before (next_word_bytes nk (words_after nk key n) (length (words_after nk key n) / 4) before)

pub expansion_bytes : (key : List ℕ) → IsBytes key → IsBytes (key_expansion key)
unfolding key_expansion
expansion_bytes key all = words_bytes _ key _ all

-- ---- states

pub record IsState (s : List ℕ) : Type 0 where
  pub len : length s ≡ 16
  pub bytes : IsBytes s

pub made_state : (f : ℕ → ℕ → ℕ) → ((r c : ℕ) → f r c < 256) → IsState (state_of f)
made_state f all = record { len = refl; bytes = state_bytes f all }

pub sub_bytes_state : (s : List ℕ) → IsBytes s → IsState (sub_bytes s)
unfolding sub_bytes
sub_bytes_state s all = made_state (λ r c. sbox (cell s r c)) (λ r c. sbox_byte (cell s r c) (all.each (r + 4 * c)))

pub shift_rows_state : (s : List ℕ) → IsBytes s → IsState (shift_rows s)
unfolding shift_rows
shift_rows_state s all = made_state (λ r c. cell s r ((c + r) % 4)) (λ r c. all.each (r + 4 * ((c + r) % 4)))

pub columns_state : (a s : List ℕ) → IsBytes s → IsState (multiplied_columns a s)
unfolding multiplied_columns
columns_state a s all =
    made_state _ (λ r c.
    let one = λ (k : ℕ) (q : ℕ). product_byte (slice_index a k) (cell s q c) (all.each (q + 4 * c)) in
    xor_byte _ _ (xor_byte _ _ (xor_byte _ _ (one 0 r) (one 1 ((r + 1) % 4))) (one 2 ((r + 2) % 4)))
    (one 3 ((r + 3) % 4)))

pub add_round_key_state : (s w : List ℕ) (round : ℕ) → IsBytes s → IsBytes w → IsState (add_round_key s w round)
unfolding add_round_key
add_round_key_state s w round all keys =
    made_state _ (λ r c. xor_byte (cell s r c) _ (all.each (r + 4 * c)) (keys.each (r + 4 * (4 * round + c))))

pub after_state : (block w : List ℕ) (n : ℕ) → IsState block → IsBytes w → IsState (state_after block w n)
unfolding state_after
after_state block w zero is keys = add_round_key_state block w 0 is.bytes keys
after_state block w (suc n) is keys =
    let shifted = shift_rows_state _ (sub_bytes_state _ (after_state block w n is keys).bytes).bytes in
    add_round_key_state _ w (suc n) (columns_state (2 ∷ 3 ∷ 1 ∷ 1 ∷ []) _ shifted.bytes).bytes keys

pub encrypted_state : (key block : List ℕ) → IsBytes key → IsState block → IsState (encrypted key block)
unfolding encrypted cipher
encrypted_state key block keys is =
    let w = expansion_bytes key keys in
    let after = after_state block (key_expansion key) (rounds_of key - 1) is w in
    let shifted = shift_rows_state _ (sub_bytes_state _ after.bytes).bytes in
    add_round_key_state _ (key_expansion key) (rounds_of key) shifted.bytes w

-- ---- tables

-- byte r of each entry is the product of the matrix's first column in row r, computed at each byte
abbrev IsRow : List ℕ → List ℕ → List ℕ → ℕ → Type 0
IsRow k entries box r =
    agree_below (λ b. eqb (byte_at r (slice_index entries b)) (slice_index k ((4 - r) % 4) • slice_index box b))
    (λ b. true) 256 ≡ true

row_of : (k entries box : List ℕ) (r : ℕ) → IsRow k entries box r → (b : ℕ) → b < 256
    → byte_at r (slice_index entries b) ≡ slice_index k ((4 - r) % 4) • slice_index box b
row_of k entries box r =
    same_below (λ b. byte_at r (slice_index entries b)) (λ b. slice_index k ((4 - r) % 4) • slice_index box b) 256

column_table : (k entries box : List ℕ) (f : ℕ → ℕ) → IsRow k entries box 0 → IsRow k entries box 1
    → IsRow k entries box 2 → IsRow k entries box 3 → ((b : ℕ) → b < 256 → slice_index box b ≡ f b)
    → IsColumnTable k f entries
column_table k entries box f first second third fourth entry = record {
  at = λ b low.
      (λ i. row_of k entries box 0 first b low i ∷ row_of k entries box 1 second b low i
      ∷ row_of k entries box 2 third b low i ∷ row_of k entries box 3 fourth b low i ∷ [])
      ∙ ap (matrix_column k 0) (entry b low);
}

pub mixed_0_table : IsColumnTable (2 ∷ 3 ∷ 1 ∷ 1 ∷ []) sbox MIXED_0
unfolding ◌•◌ product_of_bits times_x
mixed_0_table = column_table (2 ∷ 3 ∷ 1 ∷ 1 ∷ []) MIXED_0 SBOX sbox refl refl refl refl sbox_entry

pub mixed_1_table : IsColumnTable (3 ∷ 1 ∷ 1 ∷ 2 ∷ []) sbox MIXED_1
unfolding ◌•◌ product_of_bits times_x
mixed_1_table = column_table (3 ∷ 1 ∷ 1 ∷ 2 ∷ []) MIXED_1 SBOX sbox refl refl refl refl sbox_entry

pub mixed_2_table : IsColumnTable (1 ∷ 1 ∷ 2 ∷ 3 ∷ []) sbox MIXED_2
unfolding ◌•◌ product_of_bits times_x
mixed_2_table = column_table (1 ∷ 1 ∷ 2 ∷ 3 ∷ []) MIXED_2 SBOX sbox refl refl refl refl sbox_entry

pub mixed_3_table : IsColumnTable (1 ∷ 2 ∷ 3 ∷ 1 ∷ []) sbox MIXED_3
unfolding ◌•◌ product_of_bits times_x
mixed_3_table = column_table (1 ∷ 2 ∷ 3 ∷ 1 ∷ []) MIXED_3 SBOX sbox refl refl refl refl sbox_entry

pub inv_mixed_table : IsColumnTable (14 ∷ 11 ∷ 13 ∷ 9 ∷ []) inv_sbox INV_MIXED
unfolding ◌•◌ product_of_bits times_x
inv_mixed_table = column_table (14 ∷ 11 ∷ 13 ∷ 9 ∷ []) INV_MIXED INV_SBOX inv_sbox refl refl refl refl inv_sbox_entry

-- ---- words

-- the bytes of an XOR
byte_of_xor : (a b k : ℕ) → bit_xor a b / 2 ^ k % 2 ^ 8 ≡ bit_xor (a / 2 ^ k % 2 ^ 8) (b / 2 ^ k % 2 ^ 8)
byte_of_xor a b k = ap (λ n. n % 2 ^ 8) (xor_shr a b k) ∙ xor_mod (a / 2 ^ k) (b / 2 ^ k) 8

pub bytes_of_xor : (a b : ℕ) → to_le_bytes w32 (bit_xor a b) ≡ word_xor (to_le_bytes w32 a) (to_le_bytes w32 b)
unfolding word_xor
bytes_of_xor a b = λ i. xor_mod a b 8 i ∷ byte_of_xor a b 8 i ∷ byte_of_xor a b 16 i ∷ byte_of_xor a b 24 i ∷ []

-- the bytes of a word that is rotated left by whole bytes: the first column of the matrix becomes the second, third or
-- fourth
bytes_rotated_8 : (m n : ℕ) → n < 2 ^ 32 → m ≡ n % 2 ^ 24 * 2 ^ 8 + n / 2 ^ 24
    → to_le_bytes w32 m ≡ n / 256 ^ 3 % 256 ∷ n % 256 ∷ n / 256 % 256 ∷ n / 256 ^ 2 % 256 ∷ []
bytes_rotated_8 m n fits is =
    let a : m % 256 ≡ n / 256 ^ 3 % 256 = omega arith in
    let b : m / 256 % 256 ≡ n % 256 = omega arith in
    let c : m / 256 ^ 2 % 256 ≡ n / 256 % 256 = omega arith in
    let d : m / 256 ^ 3 % 256 ≡ n / 256 ^ 2 % 256 = omega arith in
    λ i. a i ∷ b i ∷ c i ∷ d i ∷ []

bytes_rotated_16 : (m n : ℕ) → n < 2 ^ 32 → m ≡ n % 2 ^ 16 * 2 ^ 16 + n / 2 ^ 16
    → to_le_bytes w32 m ≡ n / 256 ^ 2 % 256 ∷ n / 256 ^ 3 % 256 ∷ n % 256 ∷ n / 256 % 256 ∷ []
bytes_rotated_16 m n fits is =
    let a : m % 256 ≡ n / 256 ^ 2 % 256 = omega arith in
    let b : m / 256 % 256 ≡ n / 256 ^ 3 % 256 = omega arith in
    let c : m / 256 ^ 2 % 256 ≡ n % 256 = omega arith in
    let d : m / 256 ^ 3 % 256 ≡ n / 256 % 256 = omega arith in
    λ i. a i ∷ b i ∷ c i ∷ d i ∷ []

bytes_rotated_24 : (m n : ℕ) → n < 2 ^ 32 → m ≡ n % 2 ^ 8 * 2 ^ 24 + n / 2 ^ 8
    → to_le_bytes w32 m ≡ n / 256 % 256 ∷ n / 256 ^ 2 % 256 ∷ n / 256 ^ 3 % 256 ∷ n % 256 ∷ []
bytes_rotated_24 m n fits is =
    let a : m % 256 ≡ n / 256 % 256 = omega arith in
    let b : m / 256 % 256 ≡ n / 256 ^ 2 % 256 = omega arith in
    let c : m / 256 ^ 2 % 256 ≡ n / 256 ^ 3 % 256 = omega arith in
    let d : m / 256 ^ 3 % 256 ≡ n % 256 = omega arith in
    λ i. a i ∷ b i ∷ c i ∷ d i ∷ []

column_1 : (a : List ℕ) (n x : ℕ) → n < 2 ^ 32 → to_le_bytes w32 n ≡ matrix_column a 0 x
    → to_le_bytes w32 (rotate_left w32 n 8) ≡ matrix_column a 1 x
column_1 a n x fits is =
    let prefix : n * 2 ^ 8 % 2 ^ 32 ≡ n % 2 ^ 24 * 2 ^ 8 = omega arith in
    bytes_rotated_8 (rotate_left w32 n 8) n fits (rw prefix (or_shifted (n % 2 ^ 24) 8 (n / 2 ^ 24) (omega arith)))
    ∙ (λ i. slice_index (is i) 3 ∷ slice_index (is i) 0 ∷ slice_index (is i) 1 ∷ slice_index (is i) 2 ∷ [])

column_2 : (a : List ℕ) (n x : ℕ) → n < 2 ^ 32 → to_le_bytes w32 n ≡ matrix_column a 0 x
    → to_le_bytes w32 (rotate_left w32 n 16) ≡ matrix_column a 2 x
column_2 a n x fits is =
    let prefix : n * 2 ^ 16 % 2 ^ 32 ≡ n % 2 ^ 16 * 2 ^ 16 = omega arith in
    bytes_rotated_16 (rotate_left w32 n 16) n fits (rw prefix (or_shifted (n % 2 ^ 16) 16 (n / 2 ^ 16) (omega arith)))
    ∙ (λ i. slice_index (is i) 2 ∷ slice_index (is i) 3 ∷ slice_index (is i) 0 ∷ slice_index (is i) 1 ∷ [])

column_3 : (a : List ℕ) (n x : ℕ) → n < 2 ^ 32 → to_le_bytes w32 n ≡ matrix_column a 0 x
    → to_le_bytes w32 (rotate_left w32 n 24) ≡ matrix_column a 3 x
column_3 a n x fits is =
    let prefix : n * 2 ^ 24 % 2 ^ 32 ≡ n % 2 ^ 8 * 2 ^ 24 = omega arith in
    bytes_rotated_24 (rotate_left w32 n 24) n fits (rw prefix (or_shifted (n % 2 ^ 8) 24 (n / 2 ^ 8) (omega arith)))
    ∙ (λ i. slice_index (is i) 1 ∷ slice_index (is i) 2 ∷ slice_index (is i) 3 ∷ slice_index (is i) 0 ∷ [])

-- ---- the XOR of the four columns

from_second : (p q r s : ℕ) → ((p ⊕ q) ⊕ r) ⊕ s ≡ ((q ⊕ r) ⊕ s) ⊕ p
from_second p q r s = same_from_bits _ _ (λ i. simp bit_at_xor (omega arith))

from_third : (p q r s : ℕ) → ((p ⊕ q) ⊕ r) ⊕ s ≡ ((r ⊕ s) ⊕ p) ⊕ q
from_third p q r s = same_from_bits _ _ (λ i. simp bit_at_xor (omega arith))

from_fourth : (p q r s : ℕ) → ((p ⊕ q) ⊕ r) ⊕ s ≡ ((s ⊕ p) ⊕ q) ⊕ r
from_fourth p q r s = same_from_bits _ _ (λ i. simp bit_at_xor (omega arith))

-- the columns of a matrix, times p, q, r and s
pub columns_summed : (a : List ℕ) (k l m n p q r s : ℕ) → to_le_bytes w32 k ≡ matrix_column a 0 p
    → to_le_bytes w32 l ≡ matrix_column a 1 q → to_le_bytes w32 m ≡ matrix_column a 2 r
    → to_le_bytes w32 n ≡ matrix_column a 3 s
    → to_le_bytes w32 (bit_xor (bit_xor (bit_xor k l) m) n) ≡ column_product a (p ∷ q ∷ r ∷ s ∷ [])
unfolding word_xor
columns_summed a k l m n p q r s first second third fourth =
    bytes_of_xor (bit_xor (bit_xor k l) m) n
    ∙ ap (λ w. word_xor w (to_le_bytes w32 n)) (bytes_of_xor (bit_xor k l) m)
    ∙ ap (λ w. word_xor (word_xor w (to_le_bytes w32 m)) (to_le_bytes w32 n)) (bytes_of_xor k l)
    ∙ (λ i. word_xor (word_xor (word_xor (first i) (second i)) (third i)) (fourth i))
    ∙ (λ i. (((slice_index a 0 • p ⊕ slice_index a 1 • q) ⊕ slice_index a 2 • r) ⊕ slice_index a 3 • s)
    ∷ from_second (slice_index a 3 • p) (slice_index a 0 • q) (slice_index a 1 • r) (slice_index a 2 • s) i
    ∷ from_third (slice_index a 2 • p) (slice_index a 3 • q) (slice_index a 0 • r) (slice_index a 1 • s) i
    ∷ from_fourth (slice_index a 1 • p) (slice_index a 2 • q) (slice_index a 3 • r) (slice_index a 0 • s) i ∷ [])

-- the first column times p, and three more entries that are rotated to the next columns
pub columns_xored : (a : List ℕ) (k l m n p q r s : ℕ) {x y z : ℕ} → l < 2 ^ 32 → m < 2 ^ 32 → n < 2 ^ 32
    → to_le_bytes w32 k ≡ matrix_column a 0 p → to_le_bytes w32 l ≡ matrix_column a 0 q
    → to_le_bytes w32 m ≡ matrix_column a 0 r → to_le_bytes w32 n ≡ matrix_column a 0 s
    → x ≡ rotate_left w32 l 8 → y ≡ rotate_left w32 m 16 → z ≡ rotate_left w32 n 24
    → to_le_bytes w32 (bit_xor (bit_xor (bit_xor k x) y) z) ≡ column_product a (p ∷ q ∷ r ∷ s ∷ [])
columns_xored a k l m n p q r s {x} {y} {z} l_fits m_fits n_fits first at_l at_m at_n is_x is_y is_z =
    columns_summed a k x y z p q r s first (ap (to_le_bytes w32) is_x ∙ column_1 a l q l_fits at_l)
    (ap (to_le_bytes w32) is_y ∙ column_2 a m r m_fits at_m) (ap (to_le_bytes w32) is_z ∙ column_3 a n s n_fits at_n)

-- ---- states

-- four columns are a state if each is the state's column
pub columns_are : (f : ℕ → ℕ → ℕ) (p q r t : ℕ) → to_le_bytes w32 p ≡ word_of (λ n. f n 0)
    → to_le_bytes w32 q ≡ word_of (λ n. f n 1) → to_le_bytes w32 r ≡ word_of (λ n. f n 2)
    → to_le_bytes w32 t ≡ word_of (λ n. f n 3) → bytes_of_words (p ∷ q ∷ r ∷ t ∷ []) ≡ state_of f
unfolding bytes_of_words
columns_are f p q r t first second third fourth = λ i. first i ++ (second i ++ (third i ++ fourth i))

-- column k of the state after AddRoundKey, with the word of the round key read from the schedule
pub key_column : (s w : List ℕ) (round k at p q : ℕ) → at ≡ 4 * (4 * round + k)
    → to_le_bytes w32 q ≡ word_of (λ r. slice_index w (r + at))
    → to_le_bytes w32 p ≡ word_xor (to_le_bytes w32 (slice_index s k)) (to_le_bytes w32 q)
    → to_le_bytes w32 p
    ≡ word_of (λ r. slice_index (to_le_bytes w32 (slice_index s k)) r ⊕ slice_index w (r + 4 * (4 * round + k)))
unfolding word_xor
key_column s w round k at p q index read xored =
    let there = rw index at read in
    xored ∙ ap (word_xor (to_le_bytes w32 (slice_index s k))) there

-- the bytes of columns are a state
pub state_from_words : (words : List ℕ) → IsState (bytes_of_words words)
unfolding bytes_of_words
state_from_words words =
    let bytes : (n : ℕ) → IsBytes (to_le_bytes w32 n) = λ n.
    bytes_cons (omega arith) (bytes_cons (omega arith) (bytes_cons (omega arith) (bytes_cons (omega arith) bytes_nil)))
    in
    made_state (λ r c. slice_index (to_le_bytes w32 (slice_index words c)) r)
    (λ r c. (bytes (slice_index words c)).each r)
