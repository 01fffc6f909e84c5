-- Columns of a state as words of 32 bits, and tables of such words. The lowest byte of a word is in row 0.
use Rattle.std.specs.Prelude.{◌≡◌, ℕ, ◌+◌, ◌-◌, ◌*◌, ◌%◌, ◌<◌, List, ◌++◌, slice_index}
use Rattle.std.specs.Int.{w32, to_le_bytes}
use Rattle.luks_aes.specs.Field.{◌⊕◌, ◌•◌}
use Rattle.luks_aes.specs.Aes.{word_of, word_at, matrix_cell}

-- the bytes of four words, each in little-endian order: the state whose columns they are
unfoldable pub bytes_of_words : List ℕ → List ℕ
bytes_of_words words =
    to_le_bytes w32 (slice_index words 0) ++ (to_le_bytes w32 (slice_index words 1)
    ++ (to_le_bytes w32 (slice_index words 2) ++ to_le_bytes w32 (slice_index words 3)))

-- column k of the matrix whose first row is a, each next row rotated right by one, times x
abbrev pub matrix_column : List ℕ → ℕ → ℕ → List ℕ
matrix_column a k x = word_of (λ r. slice_index a ((4 + k - r) % 4) • x)

-- that matrix times a column
abbrev pub column_product : List ℕ → List ℕ → List ℕ
column_product a column = word_of (λ r. matrix_cell a column r 0)

-- entry b of the table is the matrix's first column times f b
pub record IsColumnTable (a : List ℕ) (f : ℕ → ℕ) (entries : List ℕ) : Type 0 where
  pub at : (b : ℕ) → b < 256 → to_le_bytes w32 (slice_index entries b) ≡ matrix_column a 0 (f b)

-- each of the first n words of `products` is the product of the matrix and the word of `words` at its index
pub record IsMultiplied (a words products : List ℕ) (n : ℕ) : Type 0 where
  pub at : (i : ℕ) → i < n → word_at products i ≡ column_product a (word_at words i)

-- the byte in row r and column c of round key n of a schedule (5.1.4)
abbrev pub key_byte : List ℕ → ℕ → ℕ → ℕ → ℕ
key_byte w n r c = slice_index w (r + 4 * (4 * n + c))

-- the byte in row r and column c after InvMixColumns, if y r c is the one before
abbrev pub inv_mixed_row : (ℕ → ℕ → ℕ) → ℕ → ℕ → ℕ
inv_mixed_row y r c = 14 • y r c ⊕ 11 • y ((r + 1) % 4) c ⊕ 13 • y ((r + 2) % 4) c ⊕ 9 • y ((r + 3) % 4) c

-- the byte in row r and column c of round key n after InvMixColumns
abbrev pub inv_mixed_key_byte : List ℕ → ℕ → ℕ → ℕ → ℕ
inv_mixed_key_byte w n r c = inv_mixed_row (key_byte w n) r c
