-- The words of a bitsliced state. A batch is groups of 16 blocks. Of the n words of a bit plane the first n / 4 are for
-- row 0, one for each group, and so on. Bit q of a word belongs to block q % 16 of its group, and to column q / 16.
use Rattle.std.specs.Prelude.{◌≡◌, ℕ, ◌+◌, ◌*◌, ◌/◌, ◌<◌, List, [], ◌∷◌, slice_index}
use Rattle.luks_aes.specs.BitPlanes.{IsBitPlane, HoldBytes}
use Rattle.luks_aes.specs.declared.batch.state.BitslicedState.{BitslicedState}

-- word i of each bit plane
abbrev pub words_at : {n : ℕ} → ℕ → BitslicedState n → List ℕ
words_at i x =
    slice_index x.plane_0.words i ∷ slice_index x.plane_1.words i ∷ slice_index x.plane_2.words i
    ∷ slice_index x.plane_3.words i ∷ slice_index x.plane_4.words i ∷ slice_index x.plane_5.words i
    ∷ slice_index x.plane_6.words i ∷ slice_index x.plane_7.words i ∷ []

-- the words of group g hold the bytes y r q: row r, bit q of the word
pub record GroupHolds {n : ℕ} (y : ℕ → ℕ → ℕ) (g : ℕ) (x : BitslicedState n) : Type 0 where
  pub at : (r : ℕ) → r < 4 → HoldBytes (y r) (words_at (n / 4 * r + g) x)

-- the words of each group g hold the bytes y g r q
pub record GroupsHold {n : ℕ} (y : ℕ → ℕ → ℕ → ℕ) (x : BitslicedState n) : Type 0 where
  pub at : (g : ℕ) → g < n / 4 → GroupHolds (y g) g x

-- the words of group g are the same in both states
abbrev pub SameGroup : {n : ℕ} → ℕ → BitslicedState n → BitslicedState n → Type 0
SameGroup {n} g x y = (r : ℕ) → r < 4 → words_at (n / 4 * r + g) x ≡ words_at (n / 4 * r + g) y

-- the words a, b, c and d hold bit j of the bytes of four rows
pub record AreRows (y : ℕ → ℕ → ℕ) (j a b c d : ℕ) : Type 0 where
  pub row_0 : IsBitPlane (y 0) j a
  pub row_1 : IsBitPlane (y 1) j b
  pub row_2 : IsBitPlane (y 2) j c
  pub row_3 : IsBitPlane (y 3) j d

-- the words of group g in a bit plane of n words hold bit j of the bytes of four rows
abbrev pub AreRowsOf : (ℕ → ℕ → ℕ) → ℕ → ℕ → List ℕ → ℕ → Type 0
AreRowsOf y j n words g =
    AreRows y j (slice_index words (n / 4 * 0 + g)) (slice_index words (n / 4 * 1 + g))
    (slice_index words (n / 4 * 2 + g)) (slice_index words (n / 4 * 3 + g))

-- the words of group i are the same in two bit planes of n words
abbrev pub SameRowsOf : ℕ → ℕ → List ℕ → List ℕ → Type 0
SameRowsOf n i v w = (r : ℕ) → r < 4 → slice_index v (n / 4 * r + i) ≡ slice_index w (n / 4 * r + i)
