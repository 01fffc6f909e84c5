-- Bitsliced states that represent blocks, and rounds of the equivalent inverse cipher on them, with their round keys.
use Rattle.std.proofs.lemmas.Grind.{common_steps}
use Rattle.std.proofs.Common.{◌≡◌, ℕ, ◌+◌, ◌-◌, ◌*◌, ◌/◌, ◌%◌, ◌<◌, List, [], ◌∷◌, Some, length, drop}
use Rattle.std.proofs.Common.{inl, inr, arith, sym, ap, subst, ◌∙◌, length-drop}
use Rattle.std.specs.Prelude.{slice_index}
use Rattle.std.specs.Int.Bits.{xor_assoc}
use Rattle.std.proofs.Math.ListN.{set}
use Rattle.std.proofs.lemmas.Bool.{cases_lt}
use Rattle.std.proofs.lemmas.Grind.{get_or-set_at}
use Rattle.std.proofs.lemmas.List.{get_or-set_other, length-take-le, get_or-take, get_or-drop}
use Rattle.std.proofs.lemmas.Option.{get_or_from_slice_get, slice_get-get_or}
use Rattle.luks_aes.specs.Field.{◌⊕◌}
use Rattle.luks_aes.specs.Aes.{inv_sbox, cell, state_of, multiplied_columns, inv_mix_columns, add_round_key}
use Rattle.luks_aes.specs.Aes.{inv_sub_bytes, inv_shift_rows}
use Rattle.luks_aes.specs.Bytes.{IsBytes}
use Rattle.luks_aes.specs.Columns.{key_byte, inv_mixed_row, inv_mixed_key_byte}
use Rattle.luks_aes.proofs.Bytes.{each_below_4}
use Rattle.luks_aes.proofs.ColumnLemmas.{IsState, xor_byte, bytes_take, bytes_drop, columns_state, add_round_key_state}
use Rattle.luks_aes.proofs.MixingLemmas.{inv_mixed, inv_mixed_row_xor, cell_of, same_cells}
use Rattle.luks_aes.proofs.Undone.{whole_state, xor_twice, inv_shift_rows_state, inv_sub_bytes_state}
use Rattle.luks_aes.specs.BitPlanes.{rotated_index, HoldBytes}
use Rattle.luks_aes.specs.Words.{words_at, GroupHolds, GroupsHold}
use Rattle.luks_aes.specs.Blocks.{RepresentStates, RepresentRotated, state_byte, block_in, xored_blocks}
use Rattle.luks_aes.specs.Mixing.{mixed_and_shifted}
use Rattle.luks_aes.specs.RoundKeys.{HasInvMixedKey, HasInvMixedKeys}
use Rattle.luks_aes.specs.declared.batch.round_key.RoundKey.{RoundKey}
use Rattle.luks_aes.specs.declared.batch.state.BitslicedState.{BitslicedState}
use Rattle.luks_aes.proofs.WordLemmas.{held_also}

-- ---- groups

-- a group that holds some bytes also holds equal ones
group_also : {n : ℕ} {y : ℕ → ℕ → ℕ} (z : ℕ → ℕ → ℕ) {g : ℕ} {x : BitslicedState n} → GroupHolds y g x
    → ((r q : ℕ) → r < 4 → z r q < 256) → ((r q : ℕ) → r < 4 → q < 64 → y r q ≡ z r q) → GroupHolds z g x
group_also z holds bytes same = record {
  at = λ r row. held_also (z r) (holds.at r row) (λ q. bytes r q row) (λ q inside. same r q row inside);
}

-- a state that holds some bytes also holds equal ones
pub groups_also : {n : ℕ} {y : ℕ → ℕ → ℕ → ℕ} (z : ℕ → ℕ → ℕ → ℕ) {x : BitslicedState n} → GroupsHold y x
    → ((g r q : ℕ) → r < 4 → z g r q < 256) → ((g r q : ℕ) → r < 4 → q < 64 → y g r q ≡ z g r q) → GroupsHold z x
groups_also z holds bytes same = record {
  at = λ g low. group_also (z g) (holds.at g low) (bytes g) (same g);
}

-- what holds of the words of each index holds of each row of each group
pub groups_by_words : {n : ℕ} (y z : ℕ → ℕ → ℕ → ℕ) (old new : BitslicedState n) → n % 4 ≡ 0
    → ((i g r : ℕ) → i < n → HoldBytes (y g r) (words_at i old) → HoldBytes (z g r) (words_at i new))
    → GroupsHold y old → GroupsHold z new
groups_by_words {n} y z old new whole step holds = record {
  at = λ g low. record {
    at = λ r row.
        let inside : n / 4 * r + g < n =
        each_below_4 (λ r. n / 4 * r + g < n) (omega arith) (omega arith) (omega arith) (omega arith) r row in
        step (n / 4 * r + g) g r inside ((holds.at g low).at r row);
  };
}

-- ---- cells

substituted_bytes : (s : List ℕ) → IsBytes s → IsBytes (inv_sub_bytes (inv_shift_rows s))
substituted_bytes s all = (inv_sub_bytes_state _ (inv_shift_rows_state s all).bytes).bytes

substituted_cell : (s : List ℕ) (r c : ℕ) → r < 4 → c < 4
    → cell (inv_sub_bytes (inv_shift_rows s)) r c ≡ inv_sbox (cell s r ((c + 4 - r) % 4))
unfolding inv_sub_bytes inv_shift_rows
substituted_cell s r c low small =
    cell_of (λ r c. inv_sbox (cell (inv_shift_rows s) r c)) r c low small
    ∙ ap inv_sbox (cell_of (λ r c. cell s r ((c + 4 - r) % 4)) r c low small)

keyed_cell : (s w : List ℕ) (n r c : ℕ) → r < 4 → c < 4 → cell (add_round_key s w n) r c ≡ cell s r c ⊕ key_byte w n r c
unfolding add_round_key
keyed_cell s w n r c low small = cell_of (λ r c. cell s r c ⊕ key_byte w n r c) r c low small

-- a cell of a state after AddRoundKey and InvMixColumns
inv_mixed_cell : (s w : List ℕ) (n r c : ℕ) → IsBytes s → IsBytes w → r < 4 → c < 4
    → cell (inv_mix_columns (add_round_key s w n)) r c
    ≡ inv_mixed_row (cell s) r c ⊕ inv_mixed_key_byte w n r c
unfolding multiplied_columns
inv_mixed_cell s w n r c all keys low small =
    let t = add_round_key s w n in
    let at = λ (k : ℕ) (inside : k < 4). keyed_cell s w n k c inside small in
    cell_of (inv_mixed_row (cell t)) r c low small
    ∙ (λ i. inv_mixed (at r low i) (at ((r + 1) % 4) (omega arith) i) (at ((r + 2) % 4) (omega arith) i)
    (at ((r + 3) % 4) (omega arith) i))
    ∙ inv_mixed_row_xor (cell s) (key_byte w n) r c (λ q. all.each (q + 4 * c)) (λ q. keys.each (q + 4 * (4 * n + c)))

-- ---- states

-- the cell of group g in row r at bit q, from the state of its block
abbrev pub cells : (ℕ → List ℕ) → ℕ → ℕ → ℕ → ℕ
cells t g r q = cell (t (16 * g + q % 16)) r (q / 16)

-- the rotated bit belongs to the same block, and to the column that is r columns before
rotated_block : (r q : ℕ) → r < 4 → q < 64 → rotated_index r q % 16 ≡ q % 16
rotated_block r q low inside = omega arith

rotated_column : (r q : ℕ) → r < 4 → q < 64 → rotated_index r q / 16 ≡ (q / 16 + 4 - r) % 4
rotated_column r q low inside = omega arith

pub states_keyed : {n : ℕ} (t : ℕ → List ℕ) (w : List ℕ) (m k : ℕ) (x : BitslicedState n) → k < 256
    → ((b : ℕ) → IsBytes (t b)) → IsBytes w
    → GroupsHold (λ g r q. cells t g r q ⊕ (key_byte w m r (q / 16) ⊕ k)) x
    → RepresentStates (λ b. add_round_key (t b) w m) k x
states_keyed t w m k x small all keys holds = record {
  bytes = grind (arith, common_steps, groups_also, add_round_key_state, xor_byte, keyed_cell);
}

-- states with 0 XORed into each byte
pub states_plain : {n : ℕ} (t : ℕ → List ℕ) (x : BitslicedState n) → RepresentStates t 0 x
    → ((b : ℕ) → IsBytes (t b)) → GroupsHold (cells t) x
states_plain t x holds all = grind (arith, common_steps, groups_also)

pub states_substituted : {n : ℕ} (t : ℕ → List ℕ) (x : BitslicedState n) → ((b : ℕ) → IsBytes (t b))
    → GroupsHold (λ g r q. inv_sbox (state_byte t 0x63 g r (rotated_index r q) ⊕ 0x63)) x
    → GroupsHold (cells (λ b. inv_sub_bytes (inv_shift_rows (t b)))) x
states_substituted t x all holds =
    groups_also (cells (λ b. inv_sub_bytes (inv_shift_rows (t b)))) holds
    (λ g r q low. (substituted_bytes (t (16 * g + q % 16)) (all (16 * g + q % 16))).each (r + 4 * (q / 16)))
    (λ g r q low inside.
    ap inv_sbox (xor_twice (cells t g r (rotated_index r q)) 0x63)
    ∙ (λ i. inv_sbox (cell (t (16 * g + rotated_block r q low inside i)) r (rotated_column r q low inside i)))
    ∙ sym (substituted_cell (t (16 * g + q % 16)) r (q / 16) low (omega arith)))

pub states_inv_mixed : {n : ℕ} (t : ℕ → List ℕ) (w : List ℕ) (m : ℕ) (x : BitslicedState n)
    → ((b : ℕ) → IsBytes (t b)) → IsBytes w
    → GroupsHold (λ g. mixed_and_shifted (cells t g) (λ r q. inv_mixed_key_byte w m r (q / 16) ⊕ 0x63)) x
    → RepresentRotated (λ b. inv_mix_columns (add_round_key (t b) w m)) x
states_inv_mixed t w m x all keys holds = record {
  bytes = groups_also (λ g r q. state_byte (λ b. inv_mix_columns (add_round_key (t b) w m)) 0x63 g r
      (rotated_index r q)) holds
      (λ g r q low.
      let p = rotated_index r q in
      let state = columns_state (14 ∷ 11 ∷ 13 ∷ 9 ∷ []) _
      (add_round_key_state (t (16 * g + p % 16)) w m (all (16 * g + p % 16)) keys).bytes in
      xor_byte _ 0x63 (state.bytes.each (r + 4 * (p / 16))) (omega arith))
      (λ g r q low inside.
      let p = rotated_index r q in
      sym (xor_assoc _ _ 0x63)
      ∙ ap (λ x. x ⊕ 0x63) (sym (inv_mixed_cell (t (16 * g + p % 16)) w m r (p / 16) (all (16 * g + p % 16)) keys
      low (omega arith))));
}

pub substituted_all : (t : ℕ → List ℕ) → ((b : ℕ) → IsBytes (t b)) → (b : ℕ)
    → IsBytes (inv_sub_bytes (inv_shift_rows (t b)))
substituted_all t all b = substituted_bytes (t b) (all b)

pub states_same : {n : ℕ} (s t : ℕ → List ℕ) (k : ℕ) (x : BitslicedState n) → ((b : ℕ) → s b ≡ t b)
    → RepresentStates s k x → RepresentStates t k x
states_same s t k x same holds = subst (λ (f : ℕ → List ℕ). RepresentStates f k x) (λ i b. same b i) holds

pub rotated_same : {n : ℕ} (s t : ℕ → List ℕ) (x : BitslicedState n) → ((b : ℕ) → s b ≡ t b) → RepresentRotated s x
    → RepresentRotated t x
rotated_same s t x same holds = subst (λ (f : ℕ → List ℕ). RepresentRotated f x) (λ i b. same b i) holds

-- ---- round keys

-- a block with k XORed into each of its bytes, the same for each block
pub block_represented : (block xored : List ℕ) (k : ℕ) (f : ℕ → ℕ → ℕ) (x : BitslicedState 16)
    → xored ≡ state_of (λ r c. cell block r c ⊕ k) → ((r c : ℕ) → r < 4 → c < 4 → cell block r c ≡ f r c)
    → ((r c : ℕ) → f r c ⊕ k < 256)
    → GroupsHold (λ g r q. cell xored r (q / 16)) x → GroupsHold (λ g r q. f r (q / 16) ⊕ k) x
block_represented block xored k f x is same bytes holds = record {
  at = λ g group.
      group_also (λ r q. f r (q / 16) ⊕ k) (holds.at g group) (λ r q low. bytes r (q / 16))
      (λ r q low inside.
      ap (λ s. cell s r (q / 16)) is
      ∙ cell_of (λ r c. cell block r c ⊕ k) r (q / 16) low (omega arith)
      ∙ ap (λ x. x ⊕ k) (same r (q / 16) low (omega arith)));
}

pub keys_more : (w : List ℕ) (all : List RoundKey) (n : ℕ) (key : RoundKey)
    → HasInvMixedKeys w all (n + 1) → n < length all
    → HasInvMixedKey w (n + 1) 0x63 key → HasInvMixedKeys w (set all n key) (n + 1 + 1)
keys_more w all n key before capacity here = record {
  at = λ m low found there.
      let got = get_or_from_slice_get (set all n key) m found found there in
      elim (cases_lt m n) [
        | inl below ↦
            let kept = get_or-set_other all n m key found (λ e. omega (arith, e, below)) in
            before.at m (omega arith) found (slice_get-get_or all m found (omega arith) ∙ ap Some (sym kept ∙ got))
        | inr above ↦
            let index : m ≡ n = omega arith in
            let is : key ≡ found = sym (get_or-set_at all n m key found index capacity) ∙ got in
            subst (λ (x : RoundKey). HasInvMixedKey w (m + 1) 0x63 x) is
            (subst (λ (x : ℕ). HasInvMixedKey w (x + 1) 0x63 key) (sym index) here)
      ];
}

-- ---- blocks of a batch

pub block_state : (s : List ℕ) (m n : ℕ) → length s ≡ 16 * m → n < m → IsBytes s → IsState (block_in s n)
block_state s m n size low all = record {
  len = grind (arith, common_steps, length-drop, length-take-le);
  bytes = bytes_take 16 (drop (16 * n) s) (bytes_drop (16 * n) s all);
}

-- byte i of block n is byte 16 * n + i of the batch
pub in_block : (s : List ℕ) (n i : ℕ) → i < 16 → slice_index (block_in s n) i ≡ slice_index s (16 * n + i)
in_block s n i low = get_or-take 16 (drop (16 * n) s) i 0 low ∙ get_or-drop (16 * n) s i 0

-- a block of a batch is the state whose bytes it has
pub block_is : (s t : List ℕ) (n : ℕ) → IsState (block_in s n) → length t ≡ 16
    → ((i : ℕ) → i < 16 → slice_index s (16 * n + i) ≡ slice_index t i) → block_in s n ≡ t
block_is s t n is len same =
    whole_state (block_in s n) is.len
    ∙ same_cells (cell (block_in s n)) (cell t)
    (λ r c low small. in_block s n (r + 4 * c) (omega arith) ∙ same (r + 4 * c) (omega arith))
    ∙ sym (whole_state t len)

-- ---- masks

-- byte i of the XOR of a block and block m of a mask
pub xored_at : (block mask : List ℕ) (m i : ℕ) → i < 16
    → slice_index (xored_blocks block (block_in mask m)) i ≡ slice_index block i ⊕ slice_index mask (16 * m + i)
xored_at block mask m i low =
    let at : i % 4 + 4 * (i / 4) ≡ i = omega arith in
    ap (slice_index (xored_blocks block (block_in mask m))) (sym at)
    ∙ cell_of (λ r c. cell block r c ⊕ cell (block_in mask m) r c) (i % 4) (i / 4) (omega arith) (omega arith)
    ∙ ap (λ k. slice_index block k ⊕ slice_index (block_in mask m) k) at
    ∙ ap (λ b. slice_index block i ⊕ b) (in_block mask m i low)
