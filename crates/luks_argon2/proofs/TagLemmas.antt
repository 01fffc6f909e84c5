-- The memory before and after the fill, and the bytes of a block.
use Rattle.std.proofs.Common.{◌≡◌, ℕ, ◌+◌, ◌-◌, ◌*◌, List, [], ◌++◌, length, take, refl, arith, add-one}
use Rattle.std.proofs.lemmas.Slice.{take-put_mid}
use Rattle.std.specs.Prelude.{slice_index_or, ◌≤◌}
use Rattle.luks_argon2.specs.Argon2.{last_column_xor, rows_bytes}
use Rattle.luks_argon2.specs.Block.{block_row, xor_blocks}
use Rattle.luks_argon2.specs.Words.{le64_bytes}
use borrow.Rule.Slice.PartMut.{put_mid}

pub last_next : (q : ℕ) (memory : List (List (List ℕ))) (n : ℕ)
    → last_column_xor q memory (n + 1)
    ≡ xor_blocks (last_column_xor q memory n) (slice_index_or memory ((n + 1) * q + (q - 1)) [])
unfolding last_column_xor
last_next q memory n = rw add-one refl

-- one more row is written
pub rows_bytes_more : (out ys : List ℕ) (x : List (List ℕ)) (i k : ℕ) → take (128 * i) out ≡ rows_bytes x i
    → 128 * i ≤ length out → ys ≡ le64_bytes (block_row x i) → length ys ≡ 128
    → take (128 * (i + 1)) (put_mid (128 * i) k out ys) ≡ rows_bytes x (i + 1)
unfolding rows_bytes
rows_bytes_more out ys x i k held fits is long =
    let front : take (128 * (i + 1)) (put_mid (128 * i) k out ys) ≡ take (128 * i) out ++ ys =
    take-put_mid (128 * i) k out ys (128 * (i + 1)) (omega arith) fits in
    rw (front, held, is, add-one) refl
