-- Argon2i and Argon2id, version 0x13 (RFC 9106, section 3.2), without a secret value and associated data.
use Rattle.std.specs.Prelude.{ℕ, zero, suc, ◌+◌, ◌-◌, ◌*◌, List, [], ◌++◌, length, replicate, slice_index_or, slice_set}
use Rattle.luks_argon2.specs.declared.layout.Layout.{Layout}
use Rattle.luks_argon2.specs.declared.variant.Variant.{Variant}
use Rattle.luks_argon2.specs.Addressing.{variant_number}
use Rattle.luks_argon2.specs.Blake2b.{blake2b}
use Rattle.luks_argon2.specs.Block.{block_of, block_row, xor_blocks, zero_block}
use Rattle.luks_argon2.specs.Fill.{passes_filled}
use Rattle.luks_argon2.specs.Layout.{block_count, lane_len, layout_of}
use Rattle.luks_argon2.specs.VariableLength.{variable_length_hash}
use Rattle.luks_argon2.specs.Words.{le32, le64_bytes, le64_words_at}

-- H_0 (step 1), for a tag of n bytes. The last two lengths are those of the secret value and the associated data.
unfoldable pub first_digest : Variant → List ℕ → List ℕ → ℕ → ℕ → ℕ → ℕ → List ℕ
first_digest v password salt passes memory lanes n = blake2b 64
    (le32 lanes ++ le32 n ++ le32 memory ++ le32 passes ++ le32 0x13 ++ le32 (variant_number v)
    ++ le32 (length password) ++ password ++ le32 (length salt) ++ salt ++ le32 0 ++ le32 0)

-- the block with these 1024 bytes
unfoldable pub block_of_bytes : List ℕ → List (List ℕ)
block_of_bytes bytes = block_of (λ k. le64_words_at bytes (128 * k))

-- the bytes of the first n rows of a block
unfoldable pub rows_bytes : List (List ℕ) → ℕ → List ℕ
rows_bytes x zero = []
rows_bytes x (suc n) = rows_bytes x n ++ le64_bytes (block_row x n)

-- B[i][j] for j = 0 and j = 1: H'^1024 of H_0 || LE32(j) || LE32(i) (steps 3 and 4)
unfoldable pub first_block : List ℕ → ℕ → ℕ → List (List ℕ)
first_block h0 j i = block_of_bytes (variable_length_hash 1024 (h0 ++ le32 j ++ le32 i))

-- the memory with B[i][0] and B[i][1] of the first n lanes, which have q columns
unfoldable pub with_first_blocks : List ℕ → ℕ → List (List (List ℕ)) → ℕ → List (List (List ℕ))
with_first_blocks h0 q memory zero = memory
with_first_blocks h0 q memory (suc n) =
    slice_set (slice_set (with_first_blocks h0 q memory n) (n * q) (first_block h0 0 n)) (n * q + 1)
    (first_block h0 1 n)

-- B[0][q-1] XOR B[1][q-1] XOR .. XOR B[n][q-1]: C for n = p - 1 (step 7)
unfoldable pub last_column_xor : ℕ → List (List (List ℕ)) → ℕ → List (List ℕ)
last_column_xor q memory zero = slice_index_or memory (q - 1) []
last_column_xor q memory (suc n) =
    xor_blocks (last_column_xor q memory n) (slice_index_or memory (suc n * q + (q - 1)) [])

-- the tag of n bytes, from H_0 and the memory before step 3 (steps 3 to 8)
unfoldable pub tag_in : Variant → Layout → List ℕ → List (List (List ℕ)) → ℕ → List ℕ
tag_in v s h0 memory n =
    let filled = passes_filled v s (with_first_blocks h0 (lane_len s) memory s.lanes) s.passes in
    variable_length_hash n (rows_bytes (last_column_xor (lane_len s) filled (s.lanes - 1)) 8)

-- the tag of n bytes (steps 1 to 8). The memory is zeros at first: the RFC reads no block before it fills it.
unfoldable pub argon2 : Variant → List ℕ → List ℕ → ℕ → ℕ → ℕ → ℕ → List ℕ
argon2 v password salt passes memory lanes n =
    let s = layout_of passes memory lanes in
    tag_in v s (first_digest v password salt passes memory lanes n) (replicate (block_count s) zero_block) n
