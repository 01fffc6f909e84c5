-- The words of a block of SHA-512 (FIPS 180-4, section 6.4), two by two in the lanes of vectors.
use Rattle.std.specs.Prelude.{◌≡◌, ℕ, ◌+◌, ◌*◌, ◌<◌, List, [], ◌∷◌, ◌++◌, slice_index, slice_index_or}
use Rattle.sha2.specs.Sha512.{compress, digest_bytes, padding, word_at}

-- word j of pair k
abbrev pub word_in : List (List ℕ) → ℕ → ℕ → ℕ
word_in w k j = slice_index (slice_index_or w k []) j

-- the words of eight pairs, in order
unfoldable pub words : List (List ℕ) → List ℕ
words w =
    word_in w 0 0 ∷ word_in w 0 1 ∷ word_in w 1 0 ∷ word_in w 1 1 ∷ word_in w 2 0 ∷ word_in w 2 1 ∷ word_in w 3 0
    ∷ word_in w 3 1 ∷ word_in w 4 0 ∷ word_in w 4 1 ∷ word_in w 5 0 ∷ word_in w 5 1 ∷ word_in w 6 0 ∷ word_in w 6 1
    ∷ word_in w 7 0 ∷ word_in w 7 1 ∷ []

-- the words of eight pairs are those of block b
abbrev pub ArePairs : List (List ℕ) → List ℕ → Type 0
ArePairs w b = (k : ℕ) → k < 16 → slice_index (words w) k ≡ word_at b (8 * k)

-- the hash value after one block and the digest whose words are the first m of d, if it was h after the block: the
-- digest and its padding fill the second block. SHA-512 has digests of eight words, SHA-384 of six (section 6.5).
unfoldable pub after_digest512 : ℕ → List ℕ → List ℕ → List ℕ
after_digest512 m h d = compress h (digest_bytes d m ++ padding (128 + 8 * m))
