-- Bitslicing: a word of 64 bits holds one bit of each of 64 bytes. Eight words, one a bit plane, hold the bytes whole.
use Rattle.std.specs.Prelude.{◌≡◌, ℕ, ◌+◌, ◌-◌, ◌*◌, ◌<◌, ◌%◌, List, slice_index}
use Rattle.std.specs.Int.{bit_at}

-- ---- the 64 bits of a word
-- The bytes are one row of the states of a group of 16 blocks. Bit q belongs to block q % 16 and to column q / 16.

-- the bit for the same block and the column that is r columns before, cyclically
abbrev pub rotated_index : ℕ → ℕ → ℕ
rotated_index r q = (q + 64 - 16 * r) % 64

-- ---- words

-- the word w holds bit j of each of the 64 bytes y q
pub record IsBitPlane (y : ℕ → ℕ) (j w : ℕ) : Type 0 where
  pub at : (q : ℕ) → q < 64 → bit_at w q ≡ bit_at (y q) j

-- the eight words `x` hold the bits of the 64 bytes y q: word j holds bit j of each
pub record HoldBytes (y : ℕ → ℕ) (x : List ℕ) : Type 0 where
  pub bytes : (q : ℕ) → y q < 256
  pub at : (j q : ℕ) → j < 8 → q < 64 → bit_at (slice_index x j) q ≡ bit_at (y q) j

-- bit q of the word w is bit `y q` of the number f: f is the truth table, over all 256 bytes, of the function that `w`
-- computes
pub record HasTruthTable (y : ℕ → ℕ) (w f : ℕ) : Type 0 where
  pub at : (q : ℕ) → q < 64 → bit_at w q ≡ bit_at f (y q)
