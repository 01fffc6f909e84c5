-- G, the compression function, which makes one block of two (RFC 9106, section 3.5).
use Rattle.std.specs.Prelude.{ℕ, ◌+◌, ◌*◌, Bool, List, [], ◌∷◌, if◌then◌else◌, slice_index}
use Rattle.luks_argon2.specs.Block.{block_of, block_row, xor_blocks, xor_rows}
use Rattle.luks_argon2.specs.Permutation.{permutation}

-- column q of the registers, as 16 words
unfoldable pub column : List (List ℕ) → ℕ → List ℕ
column x q =
    slice_index (block_row x 0) (2 * q) ∷ slice_index (block_row x 0) (2 * q + 1)
    ∷ slice_index (block_row x 1) (2 * q) ∷ slice_index (block_row x 1) (2 * q + 1)
    ∷ slice_index (block_row x 2) (2 * q) ∷ slice_index (block_row x 2) (2 * q + 1)
    ∷ slice_index (block_row x 3) (2 * q) ∷ slice_index (block_row x 3) (2 * q + 1)
    ∷ slice_index (block_row x 4) (2 * q) ∷ slice_index (block_row x 4) (2 * q + 1)
    ∷ slice_index (block_row x 5) (2 * q) ∷ slice_index (block_row x 5) (2 * q + 1)
    ∷ slice_index (block_row x 6) (2 * q) ∷ slice_index (block_row x 6) (2 * q + 1)
    ∷ slice_index (block_row x 7) (2 * q) ∷ slice_index (block_row x 7) (2 * q + 1) ∷ []

-- Q: P on each row of R
abbrev pub rows_permuted : List (List ℕ) → List (List ℕ)
rows_permuted r = block_of (λ k. permutation (block_row r k))

-- P on each column of Q; column q is in row q
abbrev pub columns_permuted : List (List ℕ) → List (List ℕ)
columns_permuted r = block_of (λ q. permutation (column r q))

-- G(X, Y) = Z XOR R, with R = X XOR Y. The columns of a block of columns are its rows.
unfoldable pub compressed : List (List ℕ) → List (List ℕ) → List (List ℕ)
compressed x y =
    let r = xor_blocks x y in
    let z = columns_permuted (rows_permuted r) in
    xor_blocks r (block_of (column z))

-- R, from the second pass on with the XOR of the block that is replaced
abbrev pub kept_block : Bool → List (List ℕ) → List (List ℕ) → List (List ℕ)
kept_block again old r = block_of (λ k. if again then xor_rows (block_row r k) (block_row old k) else block_row r k)

-- what replaces a block: G of two blocks, from the second pass on with the XOR of the block that was there (section
-- 3.2, step 6)
abbrev pub new_block : Bool → List (List ℕ) → List (List ℕ) → List (List ℕ) → List (List ℕ)
new_block again old x y = if again then xor_blocks old (compressed x y) else compressed x y
