-- Sixteen words in four vectors of four lanes each, as the code permutes them.
use Rattle.std.specs.Prelude.{◌≡◌, ℕ, ◌<◌, List, [], ◌∷◌, slice_index, slice_index_or}
use Rattle.luks_argon2.specs.Permutation.{half_gb}

-- the word in lane j of vector k
abbrev pub lane_word : List (List ℕ) → ℕ → ℕ → ℕ
lane_word v k j = slice_index (slice_index_or v k []) j

-- the words in lane j
abbrev pub vector_lane : List (List ℕ) → ℕ → List ℕ
vector_lane v j = lane_word v 0 j ∷ lane_word v 1 j ∷ lane_word v 2 j ∷ lane_word v 3 j ∷ []

-- all words, vector by vector
unfoldable pub vector_words : List (List ℕ) → List ℕ
vector_words v =
    lane_word v 0 0 ∷ lane_word v 0 1 ∷ lane_word v 0 2 ∷ lane_word v 0 3
    ∷ lane_word v 1 0 ∷ lane_word v 1 1 ∷ lane_word v 1 2 ∷ lane_word v 1 3
    ∷ lane_word v 2 0 ∷ lane_word v 2 1 ∷ lane_word v 2 2 ∷ lane_word v 2 3
    ∷ lane_word v 3 0 ∷ lane_word v 3 1 ∷ lane_word v 3 2 ∷ lane_word v 3 3 ∷ []

-- each lane of w is that half of GB on the lane of v
abbrev pub AreHalves : ℕ → ℕ → List (List ℕ) → List (List ℕ) → Type 0
AreHalves m n v w = (j : ℕ) → j < 4 → vector_lane w j ≡ half_gb m n (vector_lane v j)

-- the diagonals of the words as columns
unfoldable pub diagonals_as_columns : List ℕ → List ℕ
diagonals_as_columns v =
    slice_index v 0 ∷ slice_index v 1 ∷ slice_index v 2 ∷ slice_index v 3
    ∷ slice_index v 5 ∷ slice_index v 6 ∷ slice_index v 7 ∷ slice_index v 4
    ∷ slice_index v 10 ∷ slice_index v 11 ∷ slice_index v 8 ∷ slice_index v 9
    ∷ slice_index v 15 ∷ slice_index v 12 ∷ slice_index v 13 ∷ slice_index v 14 ∷ []

-- the columns as diagonals
unfoldable pub columns_as_diagonals : List ℕ → List ℕ
columns_as_diagonals v =
    slice_index v 0 ∷ slice_index v 1 ∷ slice_index v 2 ∷ slice_index v 3
    ∷ slice_index v 7 ∷ slice_index v 4 ∷ slice_index v 5 ∷ slice_index v 6
    ∷ slice_index v 10 ∷ slice_index v 11 ∷ slice_index v 8 ∷ slice_index v 9
    ∷ slice_index v 13 ∷ slice_index v 14 ∷ slice_index v 15 ∷ slice_index v 12 ∷ []
