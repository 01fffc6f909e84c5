-- Blocks side by side (FIPS 180-4): the words of each block are in a lane of their own, in its low 32 bits.
use Rattle.std.specs.Prelude.{◌≡◌, ℕ, ◌+◌, ◌*◌, ◌%◌, ◌^◌, ◌<◌, List, [], ◌++◌, length, map, slice_index, slice_index_or}
use Rattle.sha2.specs.Sha256.{IsRoundsAt, digest_bytes, padding, rounds, schedule, word_at}

-- the word in lane j of a vector
abbrev pub word : ℕ → List ℕ → ℕ
word j v = slice_index v j % 2 ^ 32

-- the words in lane j of some vectors
abbrev pub lane : ℕ → List (List ℕ) → List ℕ
lane j x = map (word j) x

-- the words in lane j are those of block b
pub record IsBlock (j : ℕ) (w : List (List ℕ)) (b : List ℕ) : Type 0 where
  pub long : length w ≡ 16
  pub words : (k : ℕ) → k < 16 → slice_index (lane j w) k ≡ word_at b (4 * k)

-- the hash value after one block and the digest whose m words are d, if it was h after the block: the digest and its
-- padding fill the second block
unfoldable pub after_digest : (List ℕ → List ℕ → List ℕ) → ℕ → List ℕ → List ℕ → List ℕ
after_digest compress m h d = compress h (digest_bytes d m ++ padding (64 + 4 * m))

-- ---- SHA-256 of two blocks, each in a lane of 64 bits (section 6.2): a word that is to be rotated is stored twice
-- ---- in its lane

-- lane j holds a word twice
abbrev pub IsTwice : ℕ → List ℕ → Type 0
IsTwice j v = slice_index v j ≡ word j v * 2 ^ 32 + word j v

-- lane j holds each of its words twice
abbrev pub AllTwice : ℕ → List (List ℕ) → Type 0
AllTwice j x = (k : ℕ) → IsTwice j (slice_index_or x k [])

-- after t rounds of block b from the hash value h, in lane j the window is w and the working variables are v
pub record IsPairAt (j : ℕ) (b h : List ℕ) (w v : List (List ℕ)) (t : ℕ) : Type 0 where
  pub window : AllTwice j w
  pub variables : AllTwice j v
  pub rounds : IsRoundsAt b h (lane j w) (lane j v) t

-- after t of the first 16 rounds of block b from the hash value h, in lane j the working variables are v
pub record IsFirstAt (j : ℕ) (b h : List ℕ) (v : List (List ℕ)) (t : ℕ) : Type 0 where
  pub variables : AllTwice j v
  pub rounds : lane j v ≡ rounds h (schedule b 48) t
