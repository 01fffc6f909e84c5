-- Numbers as bytes, the least significant byte first (RFC 7693, section 2.4; RFC 9106, section 2, "LE32" and "LE64").
use Rattle.std.specs.Prelude.{ℕ, ◌+◌, List, [], ◌∷◌, ◌++◌, slice_index}
use Rattle.std.specs.Int.{from_le_bytes, to_le_bytes, w32, w64}

-- LE32
abbrev pub le32 : ℕ → List ℕ
le32 = to_le_bytes w32

-- the word of 64 bits in the 8 bytes from byte i on
unfoldable pub le64_at : List ℕ → ℕ → ℕ
le64_at b i = from_le_bytes w64
    (slice_index b i ∷ slice_index b (i + 1) ∷ slice_index b (i + 2) ∷ slice_index b (i + 3) ∷ slice_index b (i + 4)
    ∷ slice_index b (i + 5) ∷ slice_index b (i + 6) ∷ slice_index b (i + 7) ∷ [])

-- the 16 words in the 128 bytes from byte i on
unfoldable pub le64_words_at : List ℕ → ℕ → List ℕ
le64_words_at b i =
    le64_at b i ∷ le64_at b (i + 8) ∷ le64_at b (i + 16) ∷ le64_at b (i + 24) ∷ le64_at b (i + 32)
    ∷ le64_at b (i + 40) ∷ le64_at b (i + 48) ∷ le64_at b (i + 56)
    ∷ le64_at b (i + 64) ∷ le64_at b (i + 72) ∷ le64_at b (i + 80)
    ∷ le64_at b (i + 88) ∷ le64_at b (i + 96) ∷ le64_at b (i + 104) ∷ le64_at b (i + 112) ∷ le64_at b (i + 120) ∷ []

-- LE64 of each word, one after the other
unfoldable pub le64_bytes : List ℕ → List ℕ
le64_bytes [] = []
le64_bytes (x ∷ xs) = to_le_bytes w64 x ++ le64_bytes xs
