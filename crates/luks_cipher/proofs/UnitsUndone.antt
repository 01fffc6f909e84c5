-- Decryption and encryption of a data unit undo each other, and so do those of a chain.
use Rattle.std.proofs.Common.{◌≡◌, ℕ, zero, suc, ◌+◌, ◌*◌, ◌%◌, ◌/◌, ◌<◌, ◌≤◌, List, length, take, drop, length-append}
use Rattle.std.proofs.Common.{length-drop, inl, inr, arith, refl, sym, ap, ◌∙◌}
use Rattle.std.specs.Int.{w128, to_le_bytes, from_le_bytes}
use Rattle.std.proofs.lemmas.Bool.{cases_lt}
use Rattle.std.proofs.lemmas.List.{take-append-le, drop-append-le, take_all, drop_at}
use Rattle.std.proofs.Math.Seq.{take-add}
use Rattle.luks_aes.specs.Field.{◌⊕◌}
use Rattle.luks_aes.specs.Aes.{cell, encrypted, decrypted}
use Rattle.luks_cipher.specs.Xts.{data_key, doubled_number, doubled, tweak_of, block_xor, block_at, block_encrypted}
use Rattle.luks_cipher.specs.Xts.{block_decrypted, xts_encrypted, xts_decrypted}
use Rattle.luks_kdf.specs.Bytes.{joined}
use Rattle.luks_kdf.proofs.BytesLemmas.{joined_length, joined_same}
use Rattle.luks_cipher.specs.Cbc.{block_before, chained, cbc_encrypted, cbc_decrypted}
use Rattle.luks_aes.specs.Bytes.{IsBytes}
use Rattle.luks_aes.proofs.ColumnLemmas.{IsState, made_state, xor_byte, bytes_nil, bytes_cons, bytes_take, bytes_drop}
use Rattle.luks_aes.proofs.ColumnLemmas.{encrypted_state}
use Rattle.luks_aes.proofs.Undone.{whole_state, same_states, xor_twice, decrypted-encrypted}
use Rattle.luks_aes.proofs.Undone.{decrypted_state, encrypted-decrypted}
use Rattle.luks_aes.proofs.RoundLemmas.{block_state}

-- ---- one block

pub block_xor_state : (a b : List ℕ) → IsState a → IsState b → IsState (block_xor a b)
unfolding block_xor
block_xor_state a b first second =
    made_state (λ r c. cell a r c ⊕ cell b r c)
    (λ r c. xor_byte (cell a r c) (cell b r c) (first.bytes.each (r + 4 * c)) (second.bytes.each (r + 4 * c)))

pub block_xor_twice : (a b : List ℕ) → length a ≡ 16 → block_xor (block_xor a b) b ≡ a
unfolding block_xor
block_xor_twice a b len =
    same_states (λ r c. (cell a r c ⊕ cell b r c) ⊕ cell b r c) (cell a) (λ r c. xor_twice (cell a r c) (cell b r c))
    ∙ sym (whole_state a len)

pub block_xor_len : (a b : List ℕ) → length (block_xor a b) ≡ 16
unfolding block_xor
block_xor_len a b = refl

-- ---- tweaks

pub le_state : (n : ℕ) → IsState (to_le_bytes w128 n)
le_state n = record {
  len = refl;
  bytes =
      bytes_cons (omega arith) (bytes_cons (omega arith) (bytes_cons (omega arith) (bytes_cons (omega arith)
      (bytes_cons (omega arith) (bytes_cons (omega arith) (bytes_cons (omega arith) (bytes_cons (omega arith)
      (bytes_cons (omega arith) (bytes_cons (omega arith) (bytes_cons (omega arith) (bytes_cons (omega arith)
      (bytes_cons (omega arith) (bytes_cons (omega arith) (bytes_cons (omega arith) (bytes_cons (omega arith)
      bytes_nil)))))))))))))));
}

tweak_state : (key : List ℕ) (number j : ℕ) → IsBytes key → IsState (tweak_of key number j)
unfolding tweak_of doubled
tweak_state key number zero keys = encrypted_state _ _ (bytes_drop (length key / 2) key keys) (le_state number)
tweak_state key number (suc j) keys = le_state (doubled_number (from_le_bytes w128 (tweak_of key number j)))

-- ---- joined blocks

pub joined_at : (f : ℕ → List ℕ) (n j : ℕ) → ((j : ℕ) → j < n → length (f j) ≡ 16) → j < n
    → block_at (joined f n) j ≡ f j
unfolding joined
joined_at f zero j sizes low = absurd (omega arith)
joined_at f (suc n) j sizes low =
    let smaller : (k : ℕ) → k < n → length (f k) ≡ 16 = λ k below. sizes k (omega arith) in
    let before : length (joined f n) ≡ 16 * n = joined_length f 16 n smaller ∙ omega arith in
    elim (cases_lt j n) [
      | inl inside ↦
          let rest = drop (16 * j) (joined f n) in
          let capacity : 16 ≤ length rest = rw (length-drop (16 * j) (joined f n), before) (omega arith) in
          ap (take 16) (drop-append-le (16 * j) (joined f n) (f n) (omega arith))
          ∙ take-append-le 16 rest (f n) capacity ∙ joined_at f n j smaller inside
      | inr last ↦
          let e : j ≡ n = omega arith in
          rw e (ap (take 16) (drop_at (joined f n) (f n) (16 * n) before)
          ∙ take_all 16 (f n) (omega (arith, sizes n (omega arith))))
    ]

-- joining the first n pieces of `size` bytes of a list gives its first `n * size` bytes
pub joined_units : (bytes : List ℕ) (size n : ℕ)
    → joined (λ i. take size (drop (i * size) bytes)) n ≡ take (n * size) bytes
unfolding joined
joined_units bytes size zero = let none : 0 * size ≡ 0 = omega arith in rw none refl
joined_units bytes size (suc n) =
    let more : suc n * size ≡ n * size + size = omega arith in
    rw (more, joined_units bytes size n) (sym (take-add (n * size) size bytes))

-- if the blocks of a data unit become blocks f j, and come from these again, so does the data unit
unit_again : (f g : ℕ → List ℕ) (unit : List ℕ) → length unit % 16 ≡ 0
    → ((j : ℕ) → j < length unit / 16 → length (f j) ≡ 16)
    → ((j : ℕ) → j < length unit / 16 → g j ≡ block_at unit j)
    → joined g (length (joined f (length unit / 16)) / 16) ≡ unit
unit_again f g unit whole sizes same =
    let n = length unit / 16 in
    let count : length (joined f n) / 16 ≡ n = rw (joined_length f 16 n sizes) (omega arith) in
    let index : (j : ℕ) → 16 * j ≡ j * 16 = λ j. omega arith in
    rw count
    (joined_same g (λ j. take 16 (drop (j * 16) unit)) n
    (λ j low. same j low ∙ ap (λ k. take 16 (drop k unit)) (index j))
    ∙ joined_units unit 16 n ∙ take_all (n * 16) unit (omega arith))

-- ---- data units

-- a block under its tweak, with f as the cipher
abbrev under_tweak : (List ℕ → List ℕ) → List ℕ → List ℕ → List ℕ
under_tweak f tweak block = block_xor (f (block_xor block tweak)) tweak

module _ (f g : List ℕ → List ℕ)
    (undoes : (block : List ℕ) → IsState block → (length (f block) ≡ 16) × (g (f block) ≡ block)) where
  -- if g undoes f, it does so under a tweak too
  block_undone : (tweak block : List ℕ) → IsState tweak → IsState block
      → under_tweak g tweak (under_tweak f tweak block) ≡ block
  block_undone tweak block mask is =
      let masked = undoes (block_xor block tweak) (block_xor_state block tweak is mask) in
      rw (block_xor_twice (f (block_xor block tweak)) tweak masked.0, masked.1) (block_xor_twice block tweak is.len)

  -- and on a data unit, each of whose blocks is under a tweak
  unit_undone : (tweak : ℕ → List ℕ) (unit : List ℕ) → ((j : ℕ) → IsState (tweak j)) → IsBytes unit
      → length unit % 16 ≡ 0 → joined (λ j. under_tweak g (tweak j)
      (block_at (joined (λ j. under_tweak f (tweak j) (block_at unit j)) (length unit / 16)) j))
      (length (joined (λ j. under_tweak f (tweak j) (block_at unit j)) (length unit / 16)) / 16) ≡ unit
  unit_undone tweak unit masks all whole =
      let n = length unit / 16 in
      let size : length unit ≡ 16 * n = omega arith in
      let there : ℕ → List ℕ = λ j. under_tweak f (tweak j) (block_at unit j) in
      let sizes : (j : ℕ) → j < n → length (there j) ≡ 16 =
      λ j low. block_xor_len (f (block_xor (block_at unit j) (tweak j))) (tweak j) in
      unit_again there (λ j. under_tweak g (tweak j) (block_at (joined there n) j)) unit whole sizes
      (λ j low.
      ap (under_tweak g (tweak j)) (joined_at there n j sizes low)
      ∙ block_undone (tweak j) (block_at unit j) (masks j) (block_state unit n j size low all))

module _ (key : List ℕ) (number : ℕ) (unit : List ℕ) (keys : IsBytes key) (all : IsBytes unit)
    (whole : length unit % 16 ≡ 0) where
  data_key_bytes : IsBytes (data_key key)
  data_key_bytes = bytes_take (length key / 2) key keys

  -- decryption undoes encryption
  pub xts_decrypted-xts_encrypted : xts_decrypted key number (xts_encrypted key number unit) ≡ unit
  unfolding xts_encrypted xts_decrypted block_encrypted block_decrypted
  xts_decrypted-xts_encrypted =
      unit_undone (encrypted (data_key key)) (decrypted (data_key key))
      (λ block is. (
        (encrypted_state (data_key key) block data_key_bytes is).len,
        decrypted-encrypted (data_key key) block data_key_bytes is,
      ))
      (tweak_of key number) unit (λ j. tweak_state key number j keys) all whole

  -- encryption undoes decryption
  pub xts_encrypted-xts_decrypted : xts_encrypted key number (xts_decrypted key number unit) ≡ unit
  unfolding xts_encrypted xts_decrypted block_encrypted block_decrypted
  xts_encrypted-xts_decrypted =
      unit_undone (decrypted (data_key key)) (encrypted (data_key key))
      (λ block is. (
        (decrypted_state (data_key key) block data_key_bytes is).len,
        encrypted-decrypted (data_key key) block data_key_bytes is,
      ))
      (tweak_of key number) unit (λ j. tweak_state key number j keys) all whole

-- ---- chains

-- a key, an IV and a data unit of whole blocks, which consist of bytes
module _ (key iv unit : List ℕ) (keys : IsBytes key) (first : IsState iv) (all : IsBytes unit)
    (whole : length unit % 16 ≡ 0) where
  abbrev count : ℕ
  count = length unit / 16

  unit_state : (j : ℕ) → j < count → IsState (block_at unit j)
  unit_state j low = block_state unit count j (omega arith) low all

  chained_state : (j : ℕ) → j ≤ count → IsState (chained key iv unit j)
  unfolding chained
  chained_state zero low = first
  chained_state (suc j) low =
      let before = chained_state j (omega arith) in
      encrypted_state key _ keys (block_xor_state (block_at unit j) _ (unit_state j (omega arith)) before)

  chained_len : (j : ℕ) → j < count → length (chained key iv unit (suc j)) ≡ 16
  chained_len j low = (chained_state (suc j) (omega arith)).len

  -- the block before block j of the encrypted unit is the one that it was chained with
  before_encrypted : (j : ℕ) → j < count
      → block_before iv (joined (λ j. chained key iv unit (suc j)) count) j ≡ chained key iv unit j
  unfolding block_before chained
  before_encrypted zero low = refl
  before_encrypted (suc j) low =
      joined_at (λ j. chained key iv unit (suc j)) count j (λ k below. chained_len k below) (omega arith)

  link_undone : (j : ℕ) → j < count
      → block_xor (decrypted key (chained key iv unit (suc j))) (chained key iv unit j) ≡ block_at unit j
  unfolding chained
  link_undone j low =
      let before = chained_state j (omega arith) in
      let block = unit_state j low in
      rw (decrypted-encrypted key (block_xor (block_at unit j) (chained key iv unit j)) keys
      (block_xor_state _ _ block before))
      (block_xor_twice (block_at unit j) (chained key iv unit j) block.len)

  -- decryption undoes encryption
  pub cbc_decrypted-cbc_encrypted : cbc_decrypted key iv (cbc_encrypted key iv unit) ≡ unit
  unfolding cbc_encrypted cbc_decrypted
  cbc_decrypted-cbc_encrypted =
      let there : ℕ → List ℕ = λ j. chained key iv unit (suc j) in
      unit_again there
      (λ j. block_xor (decrypted key (block_at (joined there count) j)) (block_before iv (joined there count) j)) unit
      whole (λ j low. chained_len j low)
      (λ j low.
      (λ i. block_xor (decrypted key (joined_at there count j (λ k below. chained_len k below) low i))
      (before_encrypted j low i))
      ∙ link_undone j low)

  -- block j of the decrypted unit is chained with the block before block j of the encrypted unit
  chained_decrypted : (j : ℕ) → j ≤ count
      → chained key iv (joined (λ j. block_xor (decrypted key (block_at unit j)) (block_before iv unit j)) count) j
      ≡ block_before iv unit j
  unfolding chained block_before
  chained_decrypted zero low = refl
  chained_decrypted (suc j) low =
      let back : ℕ → List ℕ = λ j. block_xor (decrypted key (block_at unit j)) (block_before iv unit j) in
      let here = joined_at back count j
      (λ k below. block_xor_len (decrypted key (block_at unit k)) (block_before iv unit k)) (omega arith) in
      let before = chained_decrypted j (omega arith) in
      let block = unit_state j (omega arith) in
      (λ i. encrypted key (block_xor (here i) (before i)))
      ∙ ap (encrypted key) (block_xor_twice (decrypted key (block_at unit j)) (block_before iv unit j)
      (decrypted_state key _ keys block).len)
      ∙ encrypted-decrypted key (block_at unit j) keys block

  -- encryption undoes decryption
  pub cbc_encrypted-cbc_decrypted : cbc_encrypted key iv (cbc_decrypted key iv unit) ≡ unit
  unfolding cbc_encrypted cbc_decrypted block_before
  cbc_encrypted-cbc_decrypted =
      let back : ℕ → List ℕ = λ j. block_xor (decrypted key (block_at unit j)) (block_before iv unit j) in
      unit_again back (λ j. chained key iv (joined back count) (suc j)) unit whole
      (λ j low. block_xor_len (decrypted key (block_at unit j)) (block_before iv unit j))
      (λ j low. chained_decrypted (suc j) (omega arith))

-- the same chain under an equal key and from an equal IV
pub equal_chain : (f : List ℕ → List ℕ → List ℕ → List ℕ) (key other v w unit new : List ℕ) → key ≡ other → v ≡ w
    → new ≡ f key v unit → new ≡ f other w unit
equal_chain f key other v w unit new same first is = is ∙ (λ i. f (same i) (first i) unit)
