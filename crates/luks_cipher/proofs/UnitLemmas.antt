-- The halves of a key, tweaks, and data units that are transformed block by block or in batches of 32 blocks.
use Rattle.std.proofs.Common.{◌≡◌, ℕ, zero, suc, ◌+◌, ◌-◌, ◌*◌, ◌/◌, ◌<◌, ◌≤◌, List, ◌++◌, length}
use Rattle.std.proofs.Common.{take, drop, arith, length-append, append_assoc, refl, sym, ap, ◌∙◌, inl, inr}
use Rattle.std.proofs.Common.{slice_index, length-drop, length-take, replicate, subst}
use Rattle.std.proofs.Math.ListN.{get_or-eq_default}
use Rattle.std.specs.Int.Bits.{bit_xor, xor_zero_r}
use Rattle.std.specs.Simd.Lanes.{zip2, put_chunk}
use Rattle.std.proofs.lemmas.Bool.{cases_lt}
use Rattle.std.proofs.lemmas.Simd.{get_or-zip2, length-zip2, put_chunk_whole}
use Rattle.std.proofs.lemmas.List.{append-nil, take_at, drop_at, take_all, take-take, drop-take, drop-drop, drop_all}
use Rattle.std.proofs.lemmas.List.{get_or-take, get_or-drop, length-take-le, get_or-replicate, length-replicate}
use Rattle.std.proofs.lemmas.Slice.{take-put_mid, drop-put_mid}
use borrow.Rule.Slice.PartMut.{put_mid}
use Rattle.luks_aes.specs.Field.{◌⊕◌}
use Rattle.luks_aes.specs.Aes.{cell, encrypted, decrypted}
use Rattle.luks_aes.specs.Bytes.{IsBytes}
use Rattle.luks_aes.proofs.Undone.{whole_state}
use Rattle.luks_aes.proofs.MixingLemmas.{same_cells}
use Rattle.luks_aes.specs.RoundKeys.{IsBatchKey}
use Rattle.luks_aes.specs.declared.batch.round_keys.RoundKeys.{RoundKeys}
use Rattle.luks_cipher.specs.Xts.{data_key, tweak_key, doubled, tweak_of, block_at, block_xor}
use Rattle.luks_kdf.specs.Bytes.{joined}
use Rattle.luks_kdf.proofs.BytesLemmas.{joined_more, joined_same}
use Rattle.luks_cipher.specs.Xts.{block_encrypted, block_decrypted, tweak_after}
use Rattle.luks_cipher.specs.Cbc.{block_before}
use Rattle.luks_cipher.proofs.UnitsUndone.{joined_units}

-- ---- the two halves of a key

module _ (a b key : List ℕ) (same : length a ≡ length b) (whole : a ++ b ≡ key) where
  pub halves : (data_key key ≡ a) × (tweak_key key ≡ b)
  halves =
      let half : length key / 2 ≡ length a = rw (← whole, length-append a b) (omega arith) in
      (rw (half, ← whole) (take_at a b (length a) refl), rw (half, ← whole) (drop_at a b (length a) refl))

  pub piece_encrypted : (tweak piece : List ℕ)
      → block_xor (encrypted a (block_xor piece tweak)) tweak ≡ block_encrypted key tweak piece
  unfolding block_encrypted
  piece_encrypted tweak piece = rw (halves.0) refl

  pub piece_decrypted : (tweak piece : List ℕ)
      → block_xor (decrypted a (block_xor piece tweak)) tweak ≡ block_decrypted key tweak piece
  unfolding block_decrypted
  piece_decrypted tweak piece = rw (halves.0) refl

  -- round keys of the first half are those for the data
  pub data_keys_of : (keys : RoundKeys) → IsBatchKey a keys → IsBatchKey (data_key key) keys
  data_keys_of keys is = subst (λ (k : List ℕ). IsBatchKey k keys) (sym halves.0) is

-- ---- XORs of blocks

pub piece_xor : (piece vector : List ℕ) → length piece ≡ 16 → length vector ≡ 16
    → put_chunk 0 piece (zip2 bit_xor (take 16 piece) vector) ≡ block_xor piece vector
unfolding block_xor
piece_xor piece vector long same =
    let all = take_all 16 piece (omega arith) in
    let xored = zip2 bit_xor piece vector in
    let size : length xored ≡ 16 = length-zip2 bit_xor piece vector (long ∙ sym same) ∙ long in
    ap (λ x. put_chunk 0 piece (zip2 bit_xor x vector)) all
    ∙ put_chunk_whole piece xored (long ∙ sym size)
    ∙ whole_state xored size
    ∙ same_cells (cell xored) (λ r c. cell piece r c ⊕ cell vector r c)
    (λ r c low small. get_or-zip2 bit_xor piece vector (r + 4 * c) 0 0 0 (omega arith) (omega arith))

-- ---- data units that are transformed block by block

-- the first j pieces of `size` bytes are done, and the others are unchanged
pub record IsDoneBefore (size : ℕ) (f : ℕ → List ℕ) (old new : List ℕ) (j : ℕ) : Type 0 where
  pub done : take (size * j) new ≡ joined f j
  pub left : drop (size * j) new ≡ drop (size * j) old

pub done_none : (size : ℕ) (f : ℕ → List ℕ) (old : List ℕ) → IsDoneBefore size f old old 0
unfolding joined
done_none size f old = let none : size * 0 ≡ 0 = omega arith in record { done = rw none refl; left = refl }

-- what is left after n more pieces were written
pub left_more : (size : ℕ) (old new piece : List ℕ) (at k j n : ℕ) → at ≡ size * j → k ≡ size * n
    → drop (size * j) new ≡ drop (size * j) old → size * (j + n) ≤ length new → length piece ≡ size * n
    → drop (size * (j + n)) (put_mid at k new piece) ≡ drop (size * (j + n)) old
left_more size old new piece at k j n index wide left capacity long =
    let next = size * (j + n) in
    let split : next ≡ size * j + size * n = omega arith in
    let rest : drop next new ≡ drop next old =
    rw (split, ← drop-drop (size * n) (size * j) new, ← drop-drop (size * n) (size * j) old)
    (ap (drop (size * n)) left) in
    drop-put_mid at k new piece next (omega arith) (omega arith) (omega arith) ∙ rest

-- n more pieces are done at once
pub done_many : (size : ℕ) (f : ℕ → List ℕ) (old new piece : List ℕ) (at k j n m : ℕ) → m ≡ j + n → at ≡ size * j
    → k ≡ size * n → IsDoneBefore size f old new j → size * (j + n) ≤ length new → length piece ≡ size * n
    → piece ≡ joined (λ i. f (j + i)) n → IsDoneBefore size f old (put_mid at k new piece) m
done_many size f old new piece at k j n m next index wide before capacity long is =
    let start : take at new ≡ joined f j = ap (λ i. take i new) index ∙ before.done in
    rw next (record {
      done = take-put_mid at k new piece (size * (j + n)) (omega arith) (omega arith)
          ∙ (λ i. start i ++ is i) ∙ sym (joined_more f j n);
      left = left_more size old new piece at k j n index wide before.left capacity long;
    })

-- one more piece is done
pub done_more : (size : ℕ) (f : ℕ → List ℕ) (old new piece : List ℕ) (at k j m : ℕ) → m ≡ j + 1 → at ≡ size * j
    → k ≡ size → IsDoneBefore size f old new j → size * (j + 1) ≤ length new → length piece ≡ size → piece ≡ f j
    → IsDoneBefore size f old (put_mid at k new piece) m
unfolding joined
done_more size f old new piece at k j m next index wide before capacity long is =
    let here : j ≡ j + 0 = omega arith in
    done_many size f old new piece at k j 1 m next index (omega arith) before capacity (omega arith) (is ∙ ap f here)

pub done_all : (size : ℕ) (f : ℕ → List ℕ) (old new : List ℕ) (j n : ℕ) → IsDoneBefore size f old new j
    → length new ≡ size * j → j ≡ n → new ≡ joined f n
done_all size f old new j n before whole at_end =
    sym (take_all (size * j) new (omega arith)) ∙ before.done ∙ ap (joined f) at_end

-- the slice that the code reads is block j
pub block_is : (old new : List ℕ) (j : ℕ) → drop (16 * j) new ≡ drop (16 * j) old
    → take (16 * j + 16 - 16 * j) (drop (16 * j) new) ≡ block_at old j
block_is old new j left =
    let size : 16 * j + 16 - 16 * j ≡ 16 = omega arith in
    rw (size, left) refl

-- ---- data units whose next block's own value is known

-- a data unit of bytes whose first j blocks are done by g, from a value t of its own for each and from what it was, and
-- the value for the next block
pub record IsProgress (g : List ℕ → List ℕ → List ℕ) (t : ℕ → List ℕ) (old new own : List ℕ) (j : ℕ) : Type 0 where
  pub bytes : IsBytes old
  pub next : own ≡ t j
  pub done : IsDoneBefore 16 (λ j. g (t j) (block_at old j)) old new j

-- one more block is done
pub progress_next : (g : List ℕ → List ℕ → List ℕ) (t : ℕ → List ℕ) (old new piece own next : List ℕ) (j : ℕ)
    → IsProgress g t old new own j → 16 * j + 16 ≤ length new → length piece ≡ 16
    → piece ≡ g own (take (16 * j + 16 - 16 * j) (drop (16 * j) new)) → next ≡ t (j + 1)
    → IsProgress g t old (put_mid (16 * j) (16 * j + 16 - 16 * j) new piece) next (j + 1)
progress_next g t old new piece own next j before capacity size is is_next = record {
  bytes = before.bytes;
  next = is_next;
  done = done_more 16 (λ j. g (t j) (block_at old j)) old new piece (16 * j) (16 * j + 16 - 16 * j) j (j + 1) refl refl
      (omega arith) before.done (omega arith) size
      (is ∙ (λ i. g (before.next i) (block_is old new j before.done.left i)));
}

-- a block of the first part of a list
pub block_of_part : (xs : List ℕ) (n size : ℕ) → 16 * n + 16 ≤ size → block_at (take size xs) n ≡ block_at xs n
block_of_part xs n size low =
    let split : size ≡ 16 * n + (size - 16 * n) = omega arith in
    ap (λ k. take 16 (drop (16 * n) (take k xs))) split
    ∙ ap (take 16) (drop-take (16 * n) (size - 16 * n) xs)
    ∙ take-take 16 (size - 16 * n) (drop (16 * n) xs) (omega arith)

-- a block of what follows the first n blocks of a list
pub block_of_rest : (xs : List ℕ) (n m : ℕ) → block_at (drop (16 * n) xs) m ≡ block_at xs (n + m)
block_of_rest xs n m =
    let there : 16 * n + 16 * m ≡ 16 * (n + m) = omega arith in
    ap (take 16) (drop-drop (16 * m) (16 * n) xs ∙ ap (λ k. drop k xs) there)

-- block m of the n blocks from block j on, as the code reads them
pub batch_block : (old new : List ℕ) (j n : ℕ) → drop (16 * j) new ≡ drop (16 * j) old
    → (m : ℕ) → m < n → block_at (take (16 * j + 16 * n - 16 * j) (drop (16 * j) new)) m ≡ block_at old (j + m)
batch_block old new j n left m low =
    block_of_part (drop (16 * j) new) m (16 * j + 16 * n - 16 * j) (omega arith)
    ∙ ap (λ l. take 16 (drop (16 * m) l)) left ∙ block_of_rest old j m

-- n blocks are done, from what the code reads; `after m` is the own value of the block m after the first of them
pub progress_batch : (g : List ℕ → List ℕ → List ℕ) (t after : ℕ → List ℕ) (old new piece own next : List ℕ)
    (j n k : ℕ) → IsProgress g t old new own j → 16 * j + 16 * n ≤ length new → length piece ≡ 16 * n → k ≡ n
    → piece ≡ joined (λ m. g (after m) (block_at (take (16 * j + 16 * n - 16 * j) (drop (16 * j) new)) m)) k
    → next ≡ after k → ((m : ℕ) → m ≤ n → after m ≡ t (j + m))
    → IsProgress g t old (put_mid (16 * j) (16 * j + 16 * n - 16 * j) new piece) next (j + n)
progress_batch g t after old new piece own next j n k before capacity long count is is_next same =
    let f : ℕ → List ℕ = λ j. g (t j) (block_at old j) in
    let batch = take (16 * j + 16 * n - 16 * j) (drop (16 * j) new) in
    let blocks : joined (λ m. g (after m) (block_at batch m)) n ≡ joined (λ m. f (j + m)) n =
    joined_same (λ m. g (after m) (block_at batch m)) (λ m. f (j + m)) n
    (λ m low i. g (same m (omega arith) i) (batch_block old new j n before.done.left m low i)) in
    record {
      bytes = before.bytes;
      next = is_next ∙ ap after count ∙ same n (omega arith);
      done = done_many 16 f old new piece (16 * j) (16 * j + 16 * n - 16 * j) j n (j + n) refl refl (omega arith)
          before.done (omega arith) long (is ∙ ap (joined (λ m. g (after m) (block_at batch m))) count ∙ blocks);
    }

-- a data unit is joined from its blocks
pub from_blocks : (unit : List ℕ) (f : ℕ → List ℕ) (n : ℕ) → length unit ≡ 16 * n
    → ((j : ℕ) → j < n → block_at unit j ≡ f j) → unit ≡ joined f n
from_blocks unit f n long same =
    let size : n * 16 ≡ 16 * n = omega arith in
    let index : (j : ℕ) → j * 16 ≡ 16 * j = λ j. omega arith in
    sym (joined_units unit 16 n ∙ ap (λ k. take k unit) size ∙ take_all (16 * n) unit (omega arith))
    ∙ joined_same (λ j. take 16 (drop (j * 16) unit)) f n
    (λ j low. ap (λ k. take 16 (drop k unit)) (index j) ∙ same j low)

-- ---- tweaks

pub tweak_more : (tweak : List ℕ) (j n : ℕ) → tweak_after (tweak_after tweak j) n ≡ tweak_after tweak (j + n)
unfolding tweak_after
tweak_more tweak j zero =
    let none : j + 0 ≡ j = omega arith in
    rw none refl
tweak_more tweak j (suc n) =
    let next : j + suc n ≡ suc (j + n) = omega arith in
    rw next (ap doubled (tweak_more tweak j n))

-- the tweaks of a data unit, from that of its first block on
pub tweaks_of_unit : (key tweak : List ℕ) (number n : ℕ) → tweak ≡ tweak_of key number 0
    → tweak_after tweak n ≡ tweak_of key number n
unfolding tweak_of tweak_after
tweaks_of_unit key tweak number zero first = first
tweaks_of_unit key tweak number (suc n) first = ap doubled (tweaks_of_unit key tweak number n first)

pub doubled_len : (tweak : List ℕ) → length (doubled tweak) ≡ 16
unfolding doubled
doubled_len tweak = refl

pub tweak_len : (tweak : List ℕ) (n : ℕ) → length tweak ≡ 16 → length (tweak_after tweak n) ≡ 16
unfolding tweak_after
tweak_len tweak zero long = long
tweak_len tweak (suc n) long = doubled_len (tweak_after tweak n)

-- ---- chains

pub before_same : (iv before old batch : List ℕ) (j n m : ℕ) → before ≡ block_before iv old j
    → ((k : ℕ) → k < n → block_at batch k ≡ block_at old (j + k)) → m ≤ n
    → block_before before batch m ≡ block_before iv old (j + m)
unfolding block_before
before_same iv before old batch j n zero first same low =
    let none : j + 0 ≡ j = omega arith in
    rw none first
before_same iv before old batch j n (suc m) first same low =
    let next : j + suc m ≡ suc (j + m) = omega arith in
    rw next (same m (omega arith))

-- a block and after it a batch, as blocks
pub chain_block : (before batch : List ℕ) (n : ℕ) → length before ≡ 16 → 16 * n ≤ length batch
    → block_at (before ++ batch) n ≡ block_before before batch n
unfolding block_before
chain_block before batch zero long low = ap (take 16) refl ∙ take_at before batch 16 long
chain_block before batch (suc n) long low =
    let split : 16 * suc n ≡ 16 + 16 * n = omega arith in
    ap (λ k. take 16 (drop k (before ++ batch))) split
    ∙ ap (take 16) (sym (drop-drop (16 * n) 16 (before ++ batch)) ∙ ap (drop (16 * n)) (drop_at before batch 16 long))

-- what is written after the first 16 bytes
pub put_after : (before batch old first rest : List ℕ) → length old ≡ length batch + 16 → length before ≡ 16
    → first ≡ before → rest ≡ batch
    → put_mid 16 (length (first ++ drop 16 old) - 16) (first ++ drop 16 old) rest ≡ before ++ batch
put_after before batch old first rest capacity long is also =
    let whole = before ++ drop 16 old in
    let rest_len : length (drop 16 old) ≡ length batch = length-drop 16 old ∙ (omega arith) in
    let size : length whole ≡ 16 + length batch = length-append before (drop 16 old) ∙ (omega arith) in
    rw (is, also)
    (λ i. take_at before (drop 16 old) 16 long i
    ++ (ap (λ x. batch ++ x) (drop-drop (length whole - 16) 16 whole ∙ drop_all _ whole (omega arith))
    ∙ append-nil batch) i)

-- the first n blocks are done at once
pub progress_first : (g : List ℕ → List ℕ → List ℕ) (t after : ℕ → List ℕ) (unit piece own : List ℕ) (n k : ℕ)
    → IsBytes unit → 16 * n ≤ length unit → length piece ≡ 16 * n → k ≡ n
    → piece ≡ joined (λ m. g (after m) (block_at (take (16 * n) unit) m)) k
    → own ≡ after k → ((m : ℕ) → m ≤ n → after m ≡ t m)
    → IsProgress g t unit (piece ++ drop (16 * n) unit) own n
progress_first g t after unit piece own n k bytes within long count is is_own same =
    let all : 16 * 0 + 16 * n - 16 * 0 ≡ 16 * n = omega arith in
    let none : (m : ℕ) → 0 + m ≡ m = λ m. omega arith in
    let start : IsProgress g t unit unit (t 0) 0 = record { bytes = bytes; next = refl; done = done_none 16 _ unit } in
    rw (all, none n) at (progress_batch g t after unit unit piece (t 0) own 0 n k start (omega arith) long count
    (rw all is)
    is_own (λ m low. same m low ∙ ap t (sym (none m))))

-- the blocks before those of the first part of a chain
pub before_of_part : (iv unit : List ℕ) (n m : ℕ) → m ≤ n
    → block_before iv (take (16 * n) unit) m ≡ block_before iv unit m
unfolding block_before
before_of_part iv unit n zero low = refl
before_of_part iv unit n (suc m) low = block_of_part unit m (16 * n) (omega arith)

-- a mask of zeros changes no block
pub zero_mask : (unit zeros : List ℕ) (n : ℕ) → 16 * n + 16 ≤ length unit → ((i : ℕ) → slice_index zeros i ≡ 0)
    → block_xor (block_at unit n) (block_at zeros n) ≡ block_at unit n
unfolding block_xor
zero_mask unit zeros n inside all =
    let block = block_at unit n in
    let capacity : 16 ≤ length (drop (16 * n) unit) = rw (length-drop (16 * n) unit) (omega arith) in
    let zero : (i : ℕ) → i < 16 → slice_index (block_at zeros n) i ≡ 0 = λ i low.
    get_or-take 16 (drop (16 * n) zeros) i 0 low ∙ get_or-drop (16 * n) zeros i 0 ∙ all (16 * n + i) in
    same_cells (λ r c. cell block r c ⊕ cell (block_at zeros n) r c) (cell block)
    (λ r c low small. ap (λ x. cell block r c ⊕ x) (zero (r + 4 * c) (omega arith)) ∙ xor_zero_r (cell block r c))
    ∙ sym (whole_state block (length-take-le 16 (drop (16 * n) unit) capacity))

-- a part of a list of zeros
pub zeros_part : (n len i : ℕ) → slice_index (take len (replicate n 0)) i ≡ 0
zeros_part n len i =
    let zero : slice_index (replicate n 0) i ≡ 0 = elim (cases_lt i n) [
      | inl inside ↦ get_or-replicate n i 0 0 inside
      | inr past ↦ get_or-eq_default (replicate n 0) 0 (omega (arith, length-replicate {A = ℕ} n 0))
    ] in
    elim (cases_lt i len) [
      | inl inside ↦ get_or-take len (replicate n 0) i 0 inside ∙ zero
      | inr past ↦ get_or-eq_default (take len (replicate n 0)) 0
          (omega (arith, length-take {A = ℕ} len (replicate n 0), length-replicate {A = ℕ} n 0, past))
    ]
