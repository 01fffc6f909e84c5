-- InvMixColumns (FIPS 197, 5.3.3) by doublings and XORs, one bit plane at a time. Products are those of the field. The
-- four rows of the result for a column a, b, c, d share three values: `all` is a ⊕ b ⊕ c ⊕ d, `even` is
-- 2 • all ⊕ a ⊕ c, and `step` is 2 • even ⊕ a ⊕ b. Row 0 is 14 • a ⊕ 11 • b ⊕ 13 • c ⊕ 9 • d, which is
-- 2 • step ⊕ all ⊕ a. Row 1 is row 0 ⊕ step. Row 2 is row 0 ⊕ even. Row 3 is row 1 ⊕ even ⊕ all.
use Rattle.std.specs.Prelude.{ℕ, ◌<◌}
use Rattle.luks_aes.specs.Field.{◌⊕◌, times_x}
use Rattle.luks_aes.specs.Columns.{inv_mixed_row}
use Rattle.luks_aes.specs.BitPlanes.{IsBitPlane, rotated_index}

-- ---- the values that the rows of a column share

abbrev pub column_bytes_xor : ℕ → ℕ → ℕ → ℕ → ℕ
column_bytes_xor a b c d = ((a ⊕ c) ⊕ b) ⊕ d

abbrev pub even_of : ℕ → ℕ → ℕ → ℕ → ℕ
even_of a b c d = times_x (column_bytes_xor a b c d) ⊕ (a ⊕ c)

abbrev pub step_of : ℕ → ℕ → ℕ → ℕ → ℕ
step_of a b c d = (times_x (even_of a b c d) ⊕ a) ⊕ b

-- ---- bit planes

pub record AreBytes (y : ℕ → ℕ → ℕ) : Type 0 where
  pub at : (r q : ℕ) → r < 4 → y r q < 256

-- the words hold bit j of the shared values
pub record AreShared (y : ℕ → ℕ → ℕ) (j all_word even_word step_word : ℕ) : Type 0 where
  pub all : IsBitPlane (λ q. column_bytes_xor (y 0 q) (y 1 q) (y 2 q) (y 3 q)) j all_word
  pub even : IsBitPlane (λ q. even_of (y 0 q) (y 1 q) (y 2 q) (y 3 q)) j even_word
  pub step : IsBitPlane (λ q. step_of (y 0 q) (y 1 q) (y 2 q) (y 3 q)) j step_word

-- the words hold bit j of the doubled shared values
pub record AreDoubled (y : ℕ → ℕ → ℕ) (j all_word even_word step_word : ℕ) : Type 0 where
  pub all : IsBitPlane (λ q. times_x (column_bytes_xor (y 0 q) (y 1 q) (y 2 q) (y 3 q))) j all_word
  pub even : IsBitPlane (λ q. times_x (even_of (y 0 q) (y 1 q) (y 2 q) (y 3 q))) j even_word
  pub step : IsBitPlane (λ q. times_x (step_of (y 0 q) (y 1 q) (y 2 q) (y 3 q))) j step_word

-- the bytes after InvMixColumns, AddRoundKey with the bytes z, and InvShiftRows
abbrev pub mixed_and_shifted : (ℕ → ℕ → ℕ) → (ℕ → ℕ → ℕ) → ℕ → ℕ → ℕ
mixed_and_shifted y z r q = inv_mixed_row y r (rotated_index r q) ⊕ z r (rotated_index r q)
