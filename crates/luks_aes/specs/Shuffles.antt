-- Shuffles of the bytes of vectors, each as the list of the bytes that it picks from both vectors joined; the bytes of
-- words.
use Rattle.std.specs.Prelude.{ℕ, ◌/◌, ◌%◌, ◌^◌, List, [], ◌∷◌, ◌++◌}
use Rattle.std.specs.Simd.Lanes.{pick_l}

-- the bytes of a block (by columns) row by row; and back
abbrev pub by_rows : List ℕ → List ℕ
by_rows a = pick_l 0 (a ++ a) (0 ∷ 4 ∷ 8 ∷ 12 ∷ 1 ∷ 5 ∷ 9 ∷ 13 ∷ 2 ∷ 6 ∷ 10 ∷ 14 ∷ 3 ∷ 7 ∷ 11 ∷ 15 ∷ [])

-- the first eight bytes of both vectors, interleaved; and the last eight
abbrev pub low_bytes : List ℕ → List ℕ → List ℕ
low_bytes a b = pick_l 0 (a ++ b) (0 ∷ 16 ∷ 1 ∷ 17 ∷ 2 ∷ 18 ∷ 3 ∷ 19 ∷ 4 ∷ 20 ∷ 5 ∷ 21 ∷ 6 ∷ 22 ∷ 7 ∷ 23 ∷ [])

abbrev pub high_bytes : List ℕ → List ℕ → List ℕ
high_bytes a b = pick_l 0 (a ++ b) (8 ∷ 24 ∷ 9 ∷ 25 ∷ 10 ∷ 26 ∷ 11 ∷ 27 ∷ 12 ∷ 28 ∷ 13 ∷ 29 ∷ 14 ∷ 30 ∷ 15 ∷ 31 ∷ [])

-- the bytes at even positions, and after them those at odd positions
abbrev pub even_positions : List ℕ → List ℕ
even_positions a = pick_l 0 (a ++ a) (0 ∷ 2 ∷ 4 ∷ 6 ∷ 8 ∷ 10 ∷ 12 ∷ 14 ∷ 1 ∷ 3 ∷ 5 ∷ 7 ∷ 9 ∷ 11 ∷ 13 ∷ 15 ∷ [])

-- byte i of a word, and the bytes of two words
abbrev pub byte_at : ℕ → ℕ → ℕ
byte_at w i = w / 256 ^ i % 256

abbrev pub pair_bytes : ℕ → ℕ → List ℕ
pair_bytes a b =
    byte_at a 0 ∷ byte_at a 1 ∷ byte_at a 2 ∷ byte_at a 3
    ∷ byte_at a 4 ∷ byte_at a 5 ∷ byte_at a 6 ∷ byte_at a 7
    ∷ byte_at b 0 ∷ byte_at b 1 ∷ byte_at b 2 ∷ byte_at b 3
    ∷ byte_at b 4 ∷ byte_at b 5 ∷ byte_at b 6 ∷ byte_at b 7 ∷ []
