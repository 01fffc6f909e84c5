-- The cipher and the inverse cipher undo each other.
use Rattle.std.proofs.Common.{◌≡◌, ℕ, zero, suc, ◌+◌, ◌-◌, ◌*◌, ◌%◌, ◌<◌, List, [], ◌∷◌, length, arith, refl, sym}
use Rattle.std.proofs.Common.{ap, ◌∙◌}
use Rattle.std.specs.Prelude.{slice_index}
use Rattle.std.specs.Int.Bits.{bit_xor, xor_assoc, xor_self, xor_zero_r}
use Rattle.luks_aes.specs.Field.{◌⊕◌}
use Rattle.luks_aes.specs.Aes.{sbox, inv_sbox, cell, state_of, sub_bytes, shift_rows, multiplied_columns, mix_columns}
use Rattle.luks_aes.specs.Aes.{add_round_key, inv_shift_rows, inv_sub_bytes, inv_mix_columns, rounds_of, key_expansion}
use Rattle.luks_aes.specs.Aes.{state_after, cipher, inv_state_after, inv_cipher, encrypted, decrypted}
use Rattle.luks_aes.specs.Bytes.{IsBytes}
use Rattle.luks_aes.proofs.Bytes.{sbox_entry, inv_sbox_entry, inv_sbox_byte, there_and_back, back_and_there}
use Rattle.luks_aes.proofs.StateLemmas.{filled_all, cell_at}
use Rattle.luks_aes.proofs.ColumnLemmas.{IsState, sbox_byte, sub_bytes_state, shift_rows_state, columns_state}
use Rattle.luks_aes.proofs.ColumnLemmas.{after_state, made_state, add_round_key_state, expansion_bytes}
use Rattle.luks_aes.proofs.MixingLemmas.{AreInverse, inverse_of_mix, inverse_of_inv_mix, row_undone}

-- ---- a round of the cipher and of the inverse cipher

pub round_after : (block w s : List ℕ) (n round : ℕ) → s ≡ state_after block w n → round ≡ suc n
    → add_round_key (mix_columns (shift_rows (sub_bytes s))) w round ≡ state_after block w round
unfolding state_after
round_after block w s n round at e = rw (e, at) refl

pub inv_round_after : (block w s : List ℕ) (nr n m round : ℕ) → s ≡ inv_state_after block nr w n → m ≡ suc n
    → round ≡ nr - m
    → inv_mix_columns (add_round_key (inv_sub_bytes (inv_shift_rows s)) w round) ≡ inv_state_after block nr w m
unfolding inv_state_after
inv_round_after block w s nr n m round at e down = rw (down, e, at) refl

-- ---- states of bytes

pub inv_sub_bytes_state : (s : List ℕ) → IsBytes s → IsState (inv_sub_bytes s)
unfolding inv_sub_bytes
inv_sub_bytes_state s all =
    made_state (λ r c. inv_sbox (cell s r c)) (λ r c. inv_sbox_byte (cell s r c) (all.each (r + 4 * c)))

pub inv_shift_rows_state : (s : List ℕ) → IsBytes s → IsState (inv_shift_rows s)
unfolding inv_shift_rows
inv_shift_rows_state s all =
    made_state (λ r c. cell s r ((c + 4 - r) % 4)) (λ r c. all.each (r + 4 * ((c + 4 - r) % 4)))

pub inv_after_state : (block w : List ℕ) (nr n : ℕ) → IsBytes block → IsBytes w → IsState (inv_state_after block nr w n)
unfolding inv_state_after
inv_after_state block w nr zero all keys = add_round_key_state block w nr all keys
inv_after_state block w nr (suc n) all keys =
    let before = inv_after_state block w nr n all keys in
    let shifted = inv_sub_bytes_state _ (inv_shift_rows_state _ before.bytes).bytes in
    columns_state (14 ∷ 11 ∷ 13 ∷ 9 ∷ []) _ (add_round_key_state _ w (nr - suc n) shifted.bytes keys).bytes

pub decrypted_state : (key block : List ℕ) → IsBytes key → IsState block → IsState (decrypted key block)
unfolding decrypted inv_cipher
decrypted_state key block keys is =
    let w = expansion_bytes key keys in
    let before = inv_after_state block (key_expansion key) (rounds_of key) (rounds_of key - 1) is.bytes w in
    let shifted = inv_sub_bytes_state _ (inv_shift_rows_state _ before.bytes).bytes in
    add_round_key_state _ (key_expansion key) 0 shifted.bytes w

-- ---- the steps

-- a state is the one made from its cells
pub whole_state : (s : List ℕ) → length s ≡ 16 → s ≡ state_of (cell s)
whole_state s len = filled_all (cell s) s 16 (record { len = len; filled = λ k low. cell_at s k }) (omega arith)

-- states are equal if all their cells are
pub same_states : (f g : ℕ → ℕ → ℕ) → ((r c : ℕ) → f r c ≡ g r c) → state_of f ≡ state_of g
same_states f g same = λ i. state_of (λ r c. same r c i)

-- a state each of whose cells comes back comes back
cells_back : (f : ℕ → ℕ → ℕ) (s : List ℕ) → length s ≡ 16 → ((r c : ℕ) → f r c ≡ cell s r c) → state_of f ≡ s
cells_back f s len same = same_states f (cell s) same ∙ sym (whole_state s len)

pub xor_twice : (a k : ℕ) → (a ⊕ k) ⊕ k ≡ a
xor_twice a k = xor_assoc a k k ∙ ap (bit_xor a) (xor_self k) ∙ xor_zero_r a

pub add_round_key_undone : (s w : List ℕ) (round : ℕ) → length s ≡ 16
    → add_round_key (add_round_key s w round) w round ≡ s
unfolding add_round_key
add_round_key_undone s w round len =
    cells_back (λ r c. (cell s r c ⊕ slice_index w (r + 4 * (4 * round + c))) ⊕ slice_index w (r + 4 * (4 * round + c)))
    s len (λ r c. xor_twice (cell s r c) _)

pub sbox_undone : (b : ℕ) → b < 256 → inv_sbox (sbox b) ≡ b
sbox_undone b low =
    let there = sbox_entry b low in
    rw (← inv_sbox_entry (sbox b) (sbox_byte b low), ← there) (back_and_there b low)

inv_sbox_undone : (b : ℕ) → b < 256 → sbox (inv_sbox b) ≡ b
inv_sbox_undone b low =
    let there = inv_sbox_entry b low in
    rw (← sbox_entry (inv_sbox b) (inv_sbox_byte b low), ← there) (there_and_back b low)

sub_bytes_undone : (s : List ℕ) → IsState s → inv_sub_bytes (sub_bytes s) ≡ s
unfolding sub_bytes inv_sub_bytes
sub_bytes_undone s is =
    cells_back (λ r c. inv_sbox (sbox (cell s r c))) s is.len
    (λ r c. sbox_undone (cell s r c) (is.bytes.each (r + 4 * c)))

inv_sub_bytes_undone : (s : List ℕ) → IsState s → sub_bytes (inv_sub_bytes s) ≡ s
unfolding sub_bytes inv_sub_bytes
inv_sub_bytes_undone s is =
    cells_back (λ r c. sbox (inv_sbox (cell s r c))) s is.len
    (λ r c. inv_sbox_undone (cell s r c) (is.bytes.each (r + 4 * c)))

shift_rows_undone : (s : List ℕ) → length s ≡ 16 → inv_shift_rows (shift_rows s) ≡ s
unfolding shift_rows inv_shift_rows
shift_rows_undone s len = sym (whole_state s len)

inv_shift_rows_undone : (s : List ℕ) → length s ≡ 16 → shift_rows (inv_shift_rows s) ≡ s
unfolding shift_rows inv_shift_rows
inv_shift_rows_undone s len = sym (whole_state s len)

columns_undone : (k m s : List ℕ) → AreInverse k m → IsState s
    → multiplied_columns k (multiplied_columns m s) ≡ s
unfolding multiplied_columns
columns_undone k m s inverse is =
    cells_back _ s is.len (λ r c.
    let byte : (q : ℕ) → cell s q c < 256 = λ q. is.bytes.each (q + 4 * c) in
    row_undone k m inverse _ _ _ _ (byte r) (byte ((r + 1) % 4)) (byte ((r + 2) % 4)) (byte ((r + 3) % 4)))

-- ---- the inverse cipher after the cipher

module _ (block w : List ℕ) (nr : ℕ) (is : IsState block) (keys : IsBytes w) where
  -- the state after n rounds, SubBytes and ShiftRows
  abbrev half_after : ℕ → List ℕ
  half_after n = shift_rows (sub_bytes (state_after block w n))

  half_state : (n : ℕ) → IsState (half_after n)
  half_state n = shift_rows_state _ (sub_bytes_state _ (after_state block w n is keys).bytes).bytes

  half_undone : (n : ℕ) → inv_sub_bytes (inv_shift_rows (half_after n)) ≡ state_after block w n
  half_undone n =
      let s = state_after block w n in
      let state = after_state block w n is keys in
      ap inv_sub_bytes (shift_rows_undone (sub_bytes s) (sub_bytes_state s state.bytes).len) ∙ sub_bytes_undone s state

  round_undone : (m : ℕ) → inv_mix_columns (add_round_key (state_after block w (suc m)) w (suc m)) ≡ half_after m
  unfolding state_after
  round_undone m =
      ap inv_mix_columns (add_round_key_undone (mix_columns (half_after m)) w (suc m)
      (columns_state (2 ∷ 3 ∷ 1 ∷ 1 ∷ []) (half_after m) (half_state m).bytes).len)
      ∙ columns_undone (14 ∷ 11 ∷ 13 ∷ 9 ∷ []) (2 ∷ 3 ∷ 1 ∷ 1 ∷ []) (half_after m) inverse_of_mix (half_state m)

  start_undone : add_round_key (state_after block w 0) w 0 ≡ block
  unfolding state_after
  start_undone = add_round_key_undone block w 0 is.len

  -- n inverse rounds after the cipher lead back to the state after nr - 1 - n rounds, SubBytes and ShiftRows
  rounds_undone : (n : ℕ) → n < nr → inv_state_after (cipher block nr w) nr w n ≡ half_after (nr - 1 - n)
  unfolding inv_state_after cipher
  rounds_undone zero low =
      let all : nr - 1 - 0 ≡ nr - 1 = omega arith in
      rw all (add_round_key_undone (half_after (nr - 1)) w nr (half_state (nr - 1)).len)
  rounds_undone (suc n) low =
      let m = nr - 1 - suc n in
      let here : nr - 1 - n ≡ suc m = omega arith in
      let key : nr - suc n ≡ suc m = omega arith in
      rw (rounds_undone n (omega arith), here, key, half_undone (suc m)) (round_undone m)

  -- the inverse cipher leads from the cipher's result back to its block
  cipher_undone : 0 < nr → inv_cipher (cipher block nr w) nr w ≡ block
  unfolding inv_cipher
  cipher_undone some =
      let first : nr - 1 - (nr - 1) ≡ 0 = omega arith in
      rw (rounds_undone (nr - 1) (omega arith), first, half_undone 0) start_undone

-- decryption undoes encryption
pub decrypted-encrypted : (key block : List ℕ) → IsBytes key → IsState block
    → decrypted key (encrypted key block) ≡ block
unfolding decrypted encrypted
decrypted-encrypted key block keys is =
    cipher_undone block (key_expansion key) (rounds_of key) is (expansion_bytes key keys) (omega arith)

-- ---- the cipher after the inverse cipher

module _ (block w : List ℕ) (nr : ℕ) (is : IsState block) (keys : IsBytes w) where
  -- the state after n inverse rounds, InvShiftRows and InvSubBytes
  abbrev inv_half_after : ℕ → List ℕ
  inv_half_after n = inv_sub_bytes (inv_shift_rows (inv_state_after block nr w n))

  inv_half_state : (n : ℕ) → IsState (inv_half_after n)
  inv_half_state n =
      let before = inv_after_state block w nr n is.bytes keys in
      inv_sub_bytes_state _ (inv_shift_rows_state _ before.bytes).bytes

  inv_half_undone : (n : ℕ) → shift_rows (sub_bytes (inv_half_after n)) ≡ inv_state_after block nr w n
  inv_half_undone n =
      let s = inv_state_after block nr w n in
      let state = inv_after_state block w nr n is.bytes keys in
      ap shift_rows (inv_sub_bytes_undone (inv_shift_rows s) (inv_shift_rows_state s state.bytes))
      ∙ inv_shift_rows_undone s state.len

  inv_round_undone : (m : ℕ)
      → add_round_key (mix_columns (inv_state_after block nr w (suc m))) w (nr - suc m) ≡ inv_half_after m
  unfolding inv_state_after
  inv_round_undone m =
      let half = inv_half_after m in
      let keyed = add_round_key_state half w (nr - suc m) (inv_half_state m).bytes keys in
      ap (λ s. add_round_key s w (nr - suc m)) (columns_undone (2 ∷ 3 ∷ 1 ∷ 1 ∷ []) (14 ∷ 11 ∷ 13 ∷ 9 ∷ [])
      (add_round_key half w (nr - suc m)) inverse_of_inv_mix keyed)
      ∙ add_round_key_undone half w (nr - suc m) (inv_half_state m).len

  inv_start_undone : add_round_key (inv_state_after block nr w 0) w nr ≡ block
  unfolding inv_state_after
  inv_start_undone = add_round_key_undone block w nr is.len

  -- n rounds after the inverse cipher lead back to the state after nr - 1 - n inverse rounds, InvShiftRows and
  -- InvSubBytes
  inv_rounds_undone : (n : ℕ) → n < nr → state_after (inv_cipher block nr w) w n ≡ inv_half_after (nr - 1 - n)
  unfolding state_after inv_cipher
  inv_rounds_undone zero low =
      let all : nr - 1 - 0 ≡ nr - 1 = omega arith in
      rw all (add_round_key_undone (inv_half_after (nr - 1)) w 0 (inv_half_state (nr - 1)).len)
  inv_rounds_undone (suc n) low =
      let m = nr - 1 - suc n in
      let here : nr - 1 - n ≡ suc m = omega arith in
      let key : suc n ≡ nr - suc m = omega arith in
      rw (inv_rounds_undone n (omega arith), here, inv_half_undone (suc m))
      (ap (add_round_key (mix_columns (inv_state_after block nr w (suc m))) w) key ∙ inv_round_undone m)

  inv_cipher_undone : 0 < nr → cipher (inv_cipher block nr w) nr w ≡ block
  unfolding cipher
  inv_cipher_undone some =
      let first : nr - 1 - (nr - 1) ≡ 0 = omega arith in
      rw (inv_rounds_undone (nr - 1) (omega arith), first, inv_half_undone 0) inv_start_undone

-- encryption undoes decryption
pub encrypted-decrypted : (key block : List ℕ) → IsBytes key → IsState block
    → encrypted key (decrypted key block) ≡ block
unfolding decrypted encrypted
encrypted-decrypted key block keys is =
    inv_cipher_undone block (key_expansion key) (rounds_of key) is (expansion_bytes key keys) (omega arith)
