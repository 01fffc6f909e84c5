-- The iterations of chains of digests, on their words: a digest and its padding fill a block.
use Rattle.std.proofs.Common.{◌≡◌, ℕ, zero, suc, ◌+◌, ◌*◌, ◌/◌, ◌^◌, ◌<◌, ◌≤◌, List, [], ◌∷◌, ◌++◌, length, take}
use Rattle.std.proofs.Common.{drop, replicate, bit_xor, refl, sym, ap, ap₂, ◌∙◌, arith, length-append, ◌⊎◌}
use Rattle.std.proofs.Common.{append_assoc, inl, inr}
use Rattle.std.specs.Prelude.{slice_index, slice_index_or}
use Rattle.std.specs.Int.{from_be_bytes, to_be_bytes, w32, w64}
use Rattle.std.specs.Simd.Lanes.{zip2}
use Rattle.std.proofs.lemmas.List.{drop_at, take_all, take_at}
use Rattle.std.proofs.lemmas.Nat.{from_be_bytes-to_be_bytes_4, from_be_bytes-to_be_bytes_8}
use Rattle.sha1.specs.Sha1 as Sha1
use Rattle.sha2.specs.Sha256.{compress, digest_bytes, hash_after, initial_hash_256, padded_message, padding, sha256}
use Rattle.sha2.specs.Sha256.{word_at}
use Rattle.sha2.specs.Sha512 as Sha512
use Rattle.luks_kdf.specs.Chains.{chain, chain_xor, hmac_by, iterations, iterations_xor, xor_words}
use Rattle.luks_kdf.specs.LaneWords.{AllTwice, IsTwice, after_digest, lane, word}
use Rattle.luks_kdf.specs.Pairs.{ArePairs, after_digest512, words}
use Rattle.luks_kdf.proofs.LaneLemmas.{all_twice, below_sixteen, below_two, word_of_lane, word_splat, words_fit}
use Rattle.luks_kdf.proofs.WordLemmas.{length-bytes, length-digest_bytes, same_bytes, spells32}
use Rattle.luks_kdf.proofs.WordLemmas.{spells64, xor_of_words}

-- ---- chains of digests: the padding of a digest fills its block

-- what the iterations need from a hash function whose digests have the bytes of words, as `bytes` gives them: the words
-- of the hash of a block b and a digest after it are those that `step` computes from the hash value `after b` and the
-- words of the digest, and words are XORed as their bytes are, m at a time
pub record IsChained (hash after : List ℕ → List ℕ) (step : List ℕ → List ℕ → List ℕ) (m : ℕ)
    (bytes : List ℕ → List ℕ) (block : ℕ) : Type 0 where
  pub hashed : (b w : List ℕ) → length b ≡ block → hash (b ++ bytes w) ≡ bytes (step (after b) w)
  pub xored : (a b : List ℕ) → zip2 bit_xor (bytes a) (bytes b) ≡ bytes (xor_words m a b)

module _ (hash after : List ℕ → List ℕ) (step : List ℕ → List ℕ → List ℕ) (m : ℕ) (bytes : List ℕ → List ℕ) (block : ℕ)
    (is : IsChained hash after step m bytes block) (inner outer : List ℕ) (li : length inner ≡ block)
    (lo : length outer ≡ block) where
  hmac_iteration : (w : List ℕ) → hmac_by hash inner outer (bytes w)
      ≡ bytes (step (after outer) (step (after inner) w))
  unfolding hmac_by
  hmac_iteration w =
      ap (λ (d : List ℕ). hash (outer ++ d)) (is.hashed inner w li) ∙ is.hashed outer (step (after inner) w) lo

  chain_iterations : (w : List ℕ) (n : ℕ) → chain hash inner outer (bytes w) n
      ≡ bytes (iterations step (after inner) (after outer) w n)
  unfolding chain iterations
  chain_iterations w zero = refl
  chain_iterations w (suc n) = ap (hmac_by hash inner outer) (chain_iterations w n) ∙ hmac_iteration _

  chain_xor_iterations : (w t : List ℕ) (n : ℕ) → chain_xor hash inner outer (bytes w) (bytes t) n
      ≡ bytes (iterations_xor m step (after inner) (after outer) w t n)
  unfolding chain_xor iterations_xor
  chain_xor_iterations w t zero = refl
  chain_xor_iterations w t (suc n) =
      ap₂ (zip2 bit_xor) (chain_xor_iterations w t n) (chain_iterations w (suc n)) ∙ is.xored _ _

  -- the words after n iterations have the bytes of `chain_xor`
  pub chain_xor_of_words : (u t i o w s r : List ℕ) (n : ℕ) → i ≡ after inner → o ≡ after outer → bytes w ≡ u
      → bytes s ≡ t → r ≡ iterations_xor m step i o w s n → bytes r ≡ chain_xor hash inner outer u t n
  chain_xor_of_words u t i o w s r n is_i is_o is_u is_t is_r =
      rw (is_r, is_i, is_o, ← is_u, ← is_t) (sym (chain_xor_iterations w s n))

-- ---- the words of the block

-- the word in a lane of vector k is read back from its bytes
word_from_its_bytes : (j : ℕ) (d : List (List ℕ)) (k : ℕ)
    → word j (slice_index_or d k []) ≡ from_be_bytes w32 (to_be_bytes w32 (slice_index (lane j d) k))
word_from_its_bytes j d k =
    sym (from_be_bytes-to_be_bytes_4 (slice_index (lane j d) k) (words_fit j d k) ∙ word_of_lane j d k)

-- the words of a SHA-1 digest after one block and of its padding, each in a vector with that word in all n lanes
abbrev vectors1 : ℕ → List (List ℕ) → List (List ℕ)
vectors1 n d =
    slice_index_or d 0 [] ∷ slice_index_or d 1 [] ∷ slice_index_or d 2 [] ∷ slice_index_or d 3 []
    ∷ slice_index_or d 4 [] ∷ replicate n 0x80000000 ∷ replicate n 0 ∷ replicate n 0 ∷ replicate n 0 ∷ replicate n 0
    ∷ replicate n 0 ∷ replicate n 0 ∷ replicate n 0 ∷ replicate n 0 ∷ replicate n 0 ∷ replicate n 672 ∷ []

pub padded_words1 : (n j : ℕ) → j < n → (d : List (List ℕ)) (k : ℕ) → k < 16
    → slice_index (lane j (vectors1 n d)) k ≡ word_at (digest_bytes (lane j d) 5 ++ padding 84) (4 * k)
unfolding digest_bytes
padded_words1 n j in_lane d =
    let read = word_from_its_bytes j d in
    let none = word_splat n 0 j in_lane in
    below_sixteen
    (λ k. slice_index (lane j (vectors1 n d)) k ≡ word_at (digest_bytes (lane j d) 5 ++ padding 84) (4 * k))
    (read 0) (read 1) (read 2) (read 3) (read 4) (word_splat n 0x80000000 j in_lane)
    none none none none none none none none none (word_splat n 672 j in_lane)

-- a vector with a number stored twice in both lanes: the number times 2 ^ 32 + 1
abbrev both : ℕ → List ℕ
both k = replicate 2 (k * 4294967297)

-- the words of a SHA-256 digest after one block and of its padding, each stored twice in both lanes
abbrev vectors256 : List (List ℕ) → List (List ℕ)
vectors256 d =
    slice_index_or d 0 [] ∷ slice_index_or d 1 [] ∷ slice_index_or d 2 [] ∷ slice_index_or d 3 []
    ∷ slice_index_or d 4 [] ∷ slice_index_or d 5 [] ∷ slice_index_or d 6 [] ∷ slice_index_or d 7 []
    ∷ both 0x80000000 ∷ both 0 ∷ both 0 ∷ both 0 ∷ both 0 ∷ both 0 ∷ both 0 ∷ both 768 ∷ []

pub padded_twice : (j : ℕ) → j < 2 → (d : List (List ℕ)) → AllTwice j d → AllTwice j (vectors256 d)
padded_twice j in_lane d all =
    let high : IsTwice j (both 0x80000000) = below_two (λ j. IsTwice j (both 0x80000000)) refl refl j in_lane in
    let none : IsTwice j (both 0) = below_two (λ j. IsTwice j (both 0)) refl refl j in_lane in
    let size : IsTwice j (both 768) = below_two (λ j. IsTwice j (both 768)) refl refl j in_lane in
    all_twice j (vectors256 d) (below_sixteen (λ k. IsTwice j (slice_index_or (vectors256 d) k []))
    (all 0) (all 1) (all 2) (all 3) (all 4) (all 5) (all 6) (all 7) high none none none none none none size)

pub padded_words256 : (j : ℕ) → j < 2 → (d : List (List ℕ)) (k : ℕ) → k < 16
    → slice_index (lane j (vectors256 d)) k ≡ word_at (digest_bytes (lane j d) 8 ++ padding 96) (4 * k)
unfolding digest_bytes
padded_words256 j in_lane d =
    let read = word_from_its_bytes j d in
    let none = word_splat 2 0 j in_lane in
    below_sixteen
    (λ k. slice_index (lane j (vectors256 d)) k ≡ word_at (digest_bytes (lane j d) 8 ++ padding 96) (4 * k))
    (read 0) (read 1) (read 2) (read 3) (read 4) (read 5) (read 6) (read 7)
    (word_splat 2 9223372039002259456 j in_lane) none none none none none none (word_splat 2 3298534884096 j in_lane)

-- ---- the hash of one block and a digest

-- the message p is the blocks b and c, of `size` bytes each
pub record IsTwoBlocks (size : ℕ) (p b c : List ℕ) : Type 0 where
  pub long : length p ≡ size + size
  pub first : take size p ≡ b
  pub second : take size (drop size p) ≡ c

-- a block and a digest of n bytes after it are two blocks when they are padded
two_blocks : (padding : ℕ → List ℕ) (size : ℕ) (b d : List ℕ) (n : ℕ) → length b ≡ size → length d ≡ n
    → length (d ++ padding (size + n)) ≡ size
    → IsTwoBlocks size ((b ++ d) ++ padding (length (b ++ d))) b (d ++ padding (size + n))
two_blocks padding size b d n whole is_long rest =
    let long : length (b ++ d) ≡ size + n = omega (arith, length-append b d) in
    let tail = d ++ padding (size + n) in
    let padded : (b ++ d) ++ padding (length (b ++ d)) ≡ b ++ tail =
    rw long (append_assoc b d (padding (size + n))) in
    rw padded (record {
      long = omega (arith, length-append b tail);
      first = take_at b tail size whole;
      second = rw (drop_at b tail size whole) (take_all size tail (omega arith));
    })

hash1_of_two : (p b c : List ℕ) → IsTwoBlocks 64 p b c
    → Sha1.hash_after p (length p / 64) ≡ Sha1.compress (Sha1.compress Sha1.initial_hash b) c
unfolding Sha1.hash_after
hash1_of_two p b c is =
    let count : length p / 64 ≡ 2 = omega (arith, is.long) in
    rw (count, is.first, is.second) refl

-- the bytes of the first n words
abbrev pub bytes32 : ℕ → List ℕ → List ℕ
bytes32 n w = digest_bytes w n

pub chained1 : IsChained Sha1.sha1 (Sha1.compress Sha1.initial_hash) (after_digest Sha1.compress 5) 5 (bytes32 5) 64
unfolding after_digest Sha1.sha1
chained1 = record {
  hashed = λ b w whole.
      let d = digest_bytes w 5 in
      let size = length-digest_bytes w 5 in
      same_bytes _ 5 ∙ ap (bytes32 5)
      (hash1_of_two (padded_message (b ++ d)) b (d ++ padding 84)
      (two_blocks padding 64 b d 20 whole size (omega (arith, size, length-append d (padding 84)))));
  xored = xor_of_words digest_bytes (to_be_bytes w32) word_at 4 spells32 5 5 (omega arith);
}

hash256_of_two : (h p b c : List ℕ) → IsTwoBlocks 64 p b c → hash_after h p (length p / 64) ≡ compress (compress h b) c
unfolding hash_after
hash256_of_two h p b c is =
    let count : length p / 64 ≡ 2 = omega (arith, is.long) in
    rw (count, is.first, is.second) refl

pub chained256 : IsChained sha256 (compress initial_hash_256) (after_digest compress 8) 8 (bytes32 8) 64
unfolding after_digest sha256
chained256 = record {
  hashed = λ b w whole.
      let d = digest_bytes w 8 in
      let size = length-digest_bytes w 8 in
      ap (bytes32 8)
      (hash256_of_two initial_hash_256 (padded_message (b ++ d)) b (d ++ padding 96)
      (two_blocks padding 64 b d 32 whole size (omega (arith, size, length-append d (padding 96)))));
  xored = xor_of_words digest_bytes (to_be_bytes w32) word_at 4 spells32 8 8 (omega arith);
}

-- ---- the same of SHA-512 and of SHA-384, whose digests are the first six words

hash512_of_two : (h p b c : List ℕ) → IsTwoBlocks 128 p b c
    → Sha512.hash_after h p (length p / 128) ≡ Sha512.compress (Sha512.compress h b) c
unfolding Sha512.hash_after
hash512_of_two h p b c is =
    let count : length p / 128 ≡ 2 = omega (arith, is.long) in
    rw (count, is.first, is.second) refl

abbrev pub bytes64 : ℕ → List ℕ → List ℕ
bytes64 n w = Sha512.digest_bytes w n

-- the padding of a digest of n words after one block fills its block
padding_fills : (n : ℕ) → (n ≡ 6) ⊎ (n ≡ 8) → n * 8 + length (Sha512.padding (128 + 8 * n)) ≡ 128
padding_fills n (inl six) = rw six refl
padding_fills n (inr eight) = rw eight refl

in_state : (n : ℕ) → (n ≡ 6) ⊎ (n ≡ 8) → n ≤ 8
in_state n (inl six) = omega arith
in_state n (inr eight) = omega arith

-- a hash function whose digests are the first n words of the hash value, and whose initial hash value is `first`
pub chained512 : (hash : List ℕ → List ℕ) (first : List ℕ) (n : ℕ) → (n ≡ 6) ⊎ (n ≡ 8)
    → ((m : List ℕ) → hash m ≡ Sha512.digest_bytes (Sha512.final_hash first m) n)
    → IsChained hash (Sha512.compress first) (after_digest512 n) 8 (bytes64 n) 128
unfolding after_digest512
chained512 hash first n known is = record {
  hashed = λ b w whole.
      let d = Sha512.digest_bytes w n in
      let size : length d ≡ 8 * n =
      length-bytes Sha512.digest_bytes (to_be_bytes w64) Sha512.word_at 8 spells64 w n ∙ omega arith in
      let rest = Sha512.padding (128 + 8 * n) in
      is (b ++ d) ∙ ap (bytes64 n)
      (hash512_of_two first (Sha512.padded_message (b ++ d)) b (d ++ rest)
      (two_blocks Sha512.padding 128 b d (8 * n) whole size
      (omega (arith, size, length-append d rest, padding_fills n known))));
  xored = xor_of_words Sha512.digest_bytes (to_be_bytes w64) Sha512.word_at 8 spells64 8 n (in_state n known);
}

-- ---- the block of a digest

-- the words of a SHA-512 digest after one block and of its padding, in pairs
abbrev pairs512 : List ℕ → List (List ℕ)
pairs512 d =
    (slice_index d 0 ∷ slice_index d 1 ∷ []) ∷ (slice_index d 2 ∷ slice_index d 3 ∷ [])
    ∷ (slice_index d 4 ∷ slice_index d 5 ∷ []) ∷ (slice_index d 6 ∷ slice_index d 7 ∷ [])
    ∷ (0x8000000000000000 ∷ 0 ∷ []) ∷ (0 ∷ 0 ∷ []) ∷ (0 ∷ 0 ∷ []) ∷ (0 ∷ 0x600 ∷ []) ∷ []

pub padded_words512 : (d : List ℕ) → ((k : ℕ) → slice_index d k < 2 ^ 64)
    → ArePairs (pairs512 d) (Sha512.digest_bytes d 8 ++ Sha512.padding 192)
unfolding words Sha512.digest_bytes
padded_words512 d fits =
    let read = λ (k : ℕ). sym (from_be_bytes-to_be_bytes_8 (slice_index d k) (fits k)) in
    below_sixteen (λ k. slice_index (words (pairs512 d)) k
    ≡ Sha512.word_at (Sha512.digest_bytes d 8 ++ Sha512.padding 192) (8 * k))
    (read 0) (read 1) (read 2) (read 3) (read 4) (read 5) (read 6) (read 7) refl refl refl refl refl refl refl refl

-- the same of a SHA-384 digest
abbrev pairs384 : List ℕ → List (List ℕ)
pairs384 d =
    (slice_index d 0 ∷ slice_index d 1 ∷ []) ∷ (slice_index d 2 ∷ slice_index d 3 ∷ [])
    ∷ (slice_index d 4 ∷ slice_index d 5 ∷ []) ∷ (0x8000000000000000 ∷ 0 ∷ []) ∷ (0 ∷ 0 ∷ []) ∷ (0 ∷ 0 ∷ [])
    ∷ (0 ∷ 0 ∷ []) ∷ (0 ∷ 0x580 ∷ []) ∷ []

pub padded_words384 : (d : List ℕ) → ((k : ℕ) → slice_index d k < 2 ^ 64)
    → ArePairs (pairs384 d) (Sha512.digest_bytes d 6 ++ Sha512.padding 176)
unfolding words Sha512.digest_bytes
padded_words384 d fits =
    let read = λ (k : ℕ). sym (from_be_bytes-to_be_bytes_8 (slice_index d k) (fits k)) in
    below_sixteen (λ k. slice_index (words (pairs384 d)) k
    ≡ Sha512.word_at (Sha512.digest_bytes d 6 ++ Sha512.padding 176) (8 * k))
    (read 0) (read 1) (read 2) (read 3) (read 4) (read 5) refl refl refl refl refl refl refl refl refl refl
