-- AES (FIPS 197) on lists of bytes. A word is a list of 4 bytes and a state one of 16. Section numbers are those of the
-- standard's update of 2023.
use Rattle.std.specs.Prelude.{ℕ, zero, suc, ◌+◌, ◌-◌, ◌*◌, ◌/◌, ◌%◌, Bool, ◌&&◌, ◌||◌, nat_lt, ◌==◌, if◌then◌else◌}
use Rattle.std.specs.Prelude.{List, [], ◌∷◌, ◌++◌, length, slice_index}
use Rattle.std.specs.Int.{w8, rotate_left}
use Rattle.luks_aes.specs.Field.{◌⊕◌, ◌•◌, power_of_x, the_element, inverse}

-- ---- the S-box (5.1.1, 5.3.2)

-- the inverse in the field, then the affine map: bit i becomes the XOR of the bits i, i + 4, i + 5, i + 6 and i + 7
-- (modulo 8) and of bit i of 0x63
unfoldable pub sbox : ℕ → ℕ
sbox b =
    let a = inverse b in
    a ⊕ rotate_left w8 a 1 ⊕ rotate_left w8 a 2 ⊕ rotate_left w8 a 3 ⊕ rotate_left w8 a 4 ⊕ 0x63

-- the byte that the S-box maps to b
unfoldable pub inv_sbox : ℕ → ℕ
inv_sbox b = the_element (λ a. sbox a == b)

-- ---- the state (3.4)

-- the byte in row r and column c of a state
abbrev pub cell : List ℕ → ℕ → ℕ → ℕ
cell s r c = slice_index s (r + 4 * c)

-- the state whose byte in row r and column c is f r c: columns follow one another
abbrev pub state_of : (ℕ → ℕ → ℕ) → List ℕ
state_of f =
    f 0 0 ∷ f 1 0 ∷ f 2 0 ∷ f 3 0 ∷ f 0 1 ∷ f 1 1 ∷ f 2 1 ∷ f 3 1
    ∷ f 0 2 ∷ f 1 2 ∷ f 2 2 ∷ f 3 2 ∷ f 0 3 ∷ f 1 3 ∷ f 2 3 ∷ f 3 3 ∷ []

-- ---- the transformations of the cipher (5.1)

-- SubBytes (5.1.1)
unfoldable pub sub_bytes : List ℕ → List ℕ
sub_bytes s = state_of (λ r c. sbox (cell s r c))

-- ShiftRows: row r rotates left by r columns (5.1.2)
unfoldable pub shift_rows : List ℕ → List ℕ
shift_rows s = state_of (λ r c. cell s r ((c + r) % 4))

-- row r of the matrix whose first row is a, each next row rotated right by one, times column c (4.3)
abbrev pub matrix_cell : List ℕ → List ℕ → ℕ → ℕ → ℕ
matrix_cell a s r c =
    slice_index a 0 • cell s r c
    ⊕ slice_index a 1 • cell s ((r + 1) % 4) c
    ⊕ slice_index a 2 • cell s ((r + 2) % 4) c
    ⊕ slice_index a 3 • cell s ((r + 3) % 4) c

-- each column multiplied by that matrix
unfoldable pub multiplied_columns : List ℕ → List ℕ → List ℕ
multiplied_columns a s = state_of (matrix_cell a s)

-- MixColumns (5.1.3)
abbrev pub mix_columns : List ℕ → List ℕ
mix_columns s = multiplied_columns (2 ∷ 3 ∷ 1 ∷ 1 ∷ []) s

-- AddRoundKey: column c of the state XOR word 4 * round + c of the key schedule w (5.1.4)
unfoldable pub add_round_key : List ℕ → List ℕ → ℕ → List ℕ
add_round_key s w round = state_of (λ r c. cell s r c ⊕ slice_index w (r + 4 * (4 * round + c)))

-- ---- the transformations of the inverse cipher (5.3)

-- InvShiftRows: row r rotates right by r columns (5.3.1)
unfoldable pub inv_shift_rows : List ℕ → List ℕ
inv_shift_rows s = state_of (λ r c. cell s r ((c + 4 - r) % 4))

-- InvSubBytes (5.3.2)
unfoldable pub inv_sub_bytes : List ℕ → List ℕ
inv_sub_bytes s = state_of (λ r c. inv_sbox (cell s r c))

-- InvMixColumns (5.3.3)
abbrev pub inv_mix_columns : List ℕ → List ℕ
inv_mix_columns s = multiplied_columns (14 ∷ 11 ∷ 13 ∷ 9 ∷ []) s

-- ---- key expansion (5.2)

-- the word whose bytes are f 0 to f 3
abbrev pub word_of : (ℕ → ℕ) → List ℕ
word_of f = f 0 ∷ f 1 ∷ f 2 ∷ f 3 ∷ []

-- word i of a key schedule, which is the list of its words' bytes
abbrev pub word_at : List ℕ → ℕ → List ℕ
word_at w i = word_of (λ k. slice_index w (4 * i + k))

-- XOR of two words
unfoldable pub word_xor : List ℕ → List ℕ → List ℕ
word_xor a b = word_of (λ k. slice_index a k ⊕ slice_index b k)

-- RotWord: rotated left by one byte
unfoldable pub rot_word : List ℕ → List ℕ
rot_word a = word_of (λ k. slice_index a ((k + 1) % 4))

-- SubWord: the S-box of each byte
unfoldable pub sub_word : List ℕ → List ℕ
sub_word a = word_of (λ k. sbox (slice_index a k))

-- Rcon[j], for j from 1
abbrev pub round_constant : ℕ → List ℕ
round_constant j = power_of_x (j - 1) ∷ 0 ∷ 0 ∷ 0 ∷ []

-- word i of the schedule of a key of nk words, from the words w before it
unfoldable pub next_word : ℕ → List ℕ → ℕ → List ℕ
next_word nk w i =
    let last = word_at w (i - 1) in
    word_xor (word_at w (i - nk))
    (if i % nk == 0 then word_xor (sub_word (rot_word last)) (round_constant (i / nk))
    else if nat_lt 6 nk && (i % nk == 4) then sub_word last
    else last)

-- the words w and the next one
unfoldable pub with_next_word : ℕ → List ℕ → List ℕ
with_next_word nk w = w ++ next_word nk w (length w / 4)

-- the key's nk words and the next n
unfoldable pub words_after : ℕ → List ℕ → ℕ → List ℕ
words_after nk key zero = key
words_after nk key (suc n) = with_next_word nk (words_after nk key n)

-- Nk and Nr, the words and the rounds of a key (5)
abbrev pub words_of : List ℕ → ℕ
words_of key = length key / 4

abbrev pub rounds_of : List ℕ → ℕ
rounds_of key = words_of key + 6

-- KeyExpansion: the schedule has 4 * (Nr + 1) words
unfoldable pub key_expansion : List ℕ → List ℕ
key_expansion key = words_after (words_of key) key (4 * (rounds_of key + 1) - words_of key)

-- ---- the cipher (5.1) and the inverse cipher (5.3)

-- the state after n of the equal rounds
unfoldable pub state_after : List ℕ → List ℕ → ℕ → List ℕ
state_after block w zero = add_round_key block w 0
state_after block w (suc n) = add_round_key (mix_columns (shift_rows (sub_bytes (state_after block w n)))) w (suc n)

-- Cipher: the last round has no MixColumns
unfoldable pub cipher : List ℕ → ℕ → List ℕ → List ℕ
cipher block nr w = add_round_key (shift_rows (sub_bytes (state_after block w (nr - 1)))) w nr

-- the state after n of the equal inverse rounds, which go from round nr - 1 down
unfoldable pub inv_state_after : List ℕ → ℕ → List ℕ → ℕ → List ℕ
inv_state_after block nr w zero = add_round_key block w nr
inv_state_after block nr w (suc n) =
    inv_mix_columns (add_round_key (inv_sub_bytes (inv_shift_rows (inv_state_after block nr w n))) w (nr - suc n))

-- InvCipher
unfoldable pub inv_cipher : List ℕ → ℕ → List ℕ → List ℕ
inv_cipher block nr w = add_round_key (inv_sub_bytes (inv_shift_rows (inv_state_after block nr w (nr - 1)))) w 0

-- ---- AES-128, AES-192 and AES-256

-- the lengths that a key can have
abbrev pub is_aes_key_length : ℕ → Bool
is_aes_key_length n = (n == 16) || (n == 24) || (n == 32)

-- the block that the cipher makes from this one under the key
unfoldable pub encrypted : List ℕ → List ℕ → List ℕ
encrypted key block = cipher block (rounds_of key) (key_expansion key)

-- the block that the inverse cipher makes from this one under the key
unfoldable pub decrypted : List ℕ → List ℕ → List ℕ
decrypted key block = inv_cipher block (rounds_of key) (key_expansion key)
