-- Blocks of 1024 bytes, as the matrix R of 8 by 8 registers that the compression function sees (RFC 9106, section
-- 3.5). A register has 16 bytes, which are two words, so a block is eight rows of 16 words.
use Rattle.std.specs.Prelude.{ℕ, List, [], ◌∷◌, bit_xor, map, replicate, slice_index, slice_index_or}
use Rattle.std.specs.List.{range_with_len}

-- row k of a block
abbrev pub block_row : List (List ℕ) → ℕ → List ℕ
block_row x k = slice_index_or x k []

-- the block whose row k is f k
unfoldable pub block_of : (ℕ → List ℕ) → List (List ℕ)
block_of f = map f (range_with_len 0 8)

-- ZERO
unfoldable pub zero_block : List (List ℕ)
zero_block = replicate 8 (replicate 16 0)

-- the XOR of two rows
unfoldable pub xor_rows : List ℕ → List ℕ → List ℕ
xor_rows x y =
    bit_xor (slice_index x 0) (slice_index y 0) ∷ bit_xor (slice_index x 1) (slice_index y 1)
    ∷ bit_xor (slice_index x 2) (slice_index y 2) ∷ bit_xor (slice_index x 3) (slice_index y 3)
    ∷ bit_xor (slice_index x 4) (slice_index y 4) ∷ bit_xor (slice_index x 5) (slice_index y 5)
    ∷ bit_xor (slice_index x 6) (slice_index y 6) ∷ bit_xor (slice_index x 7) (slice_index y 7)
    ∷ bit_xor (slice_index x 8) (slice_index y 8) ∷ bit_xor (slice_index x 9) (slice_index y 9)
    ∷ bit_xor (slice_index x 10) (slice_index y 10) ∷ bit_xor (slice_index x 11) (slice_index y 11)
    ∷ bit_xor (slice_index x 12) (slice_index y 12) ∷ bit_xor (slice_index x 13) (slice_index y 13)
    ∷ bit_xor (slice_index x 14) (slice_index y 14) ∷ bit_xor (slice_index x 15) (slice_index y 15) ∷ []

-- the XOR of two blocks
abbrev pub xor_blocks : List (List ℕ) → List (List ℕ) → List (List ℕ)
xor_blocks x y = block_of (λ k. xor_rows (block_row x k) (block_row y k))
