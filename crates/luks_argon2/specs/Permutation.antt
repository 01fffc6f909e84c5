-- P, the permutation of 16 words (RFC 9106, section 3.6): a round of BLAKE2b without its message, with another
-- addition.
use Rattle.std.specs.Prelude.{ℕ, ◌+◌, ◌*◌, ◌%◌, ◌^◌, List, [], ◌∷◌, bit_xor, slice_index}
use Rattle.std.specs.Int.{rotate_right, w64}

-- x + y + 2 * trunc(x) * trunc(y), modulo 2 ^ 64
unfoldable pub multiply_add : ℕ → ℕ → ℕ
multiply_add x y = (x + y + 2 * (x % 2 ^ 32 * (y % 2 ^ 32))) % 2 ^ 64

-- (x XOR y) >>> n
unfoldable pub xor_rotated : ℕ → ℕ → ℕ → ℕ
xor_rotated x y n = rotate_right w64 (bit_xor x y) n

-- one half of GB on a, b, c and d, with its two rotations
unfoldable pub half_gb : ℕ → ℕ → List ℕ → List ℕ
half_gb m n v =
    let a = multiply_add (slice_index v 0) (slice_index v 1) in
    let d = xor_rotated (slice_index v 3) a m in
    let c = multiply_add (slice_index v 2) d in
    let b = xor_rotated (slice_index v 1) c n in
    a ∷ b ∷ c ∷ d ∷ []

-- GB
unfoldable pub gb : List ℕ → List ℕ
gb v = half_gb 16 63 (half_gb 32 24 v)

-- the words k of four lists, for each k
abbrev pub woven : List ℕ → List ℕ → List ℕ → List ℕ → List ℕ
woven a b c d =
    slice_index a 0 ∷ slice_index b 0 ∷ slice_index c 0 ∷ slice_index d 0
    ∷ slice_index a 1 ∷ slice_index b 1 ∷ slice_index c 1 ∷ slice_index d 1
    ∷ slice_index a 2 ∷ slice_index b 2 ∷ slice_index c 2 ∷ slice_index d 2
    ∷ slice_index a 3 ∷ slice_index b 3 ∷ slice_index c 3 ∷ slice_index d 3 ∷ []

-- GB on v_0 v_4 v_8 v_12, on v_1 v_5 v_9 v_13, on v_2 v_6 v_10 v_14 and on v_3 v_7 v_11 v_15
unfoldable pub on_columns : List ℕ → List ℕ
on_columns v = woven
    (gb (slice_index v 0 ∷ slice_index v 4 ∷ slice_index v 8 ∷ slice_index v 12 ∷ []))
    (gb (slice_index v 1 ∷ slice_index v 5 ∷ slice_index v 9 ∷ slice_index v 13 ∷ []))
    (gb (slice_index v 2 ∷ slice_index v 6 ∷ slice_index v 10 ∷ slice_index v 14 ∷ []))
    (gb (slice_index v 3 ∷ slice_index v 7 ∷ slice_index v 11 ∷ slice_index v 15 ∷ []))

-- GB on v_0 v_5 v_10 v_15, on v_1 v_6 v_11 v_12, on v_2 v_7 v_8 v_13 and on v_3 v_4 v_9 v_14
unfoldable pub on_diagonals : List ℕ → List ℕ
on_diagonals v =
    let g0 = gb (slice_index v 0 ∷ slice_index v 5 ∷ slice_index v 10 ∷ slice_index v 15 ∷ []) in
    let g1 = gb (slice_index v 1 ∷ slice_index v 6 ∷ slice_index v 11 ∷ slice_index v 12 ∷ []) in
    let g2 = gb (slice_index v 2 ∷ slice_index v 7 ∷ slice_index v 8 ∷ slice_index v 13 ∷ []) in
    let g3 = gb (slice_index v 3 ∷ slice_index v 4 ∷ slice_index v 9 ∷ slice_index v 14 ∷ []) in
    slice_index g0 0 ∷ slice_index g1 0 ∷ slice_index g2 0 ∷ slice_index g3 0
    ∷ slice_index g3 1 ∷ slice_index g0 1 ∷ slice_index g1 1 ∷ slice_index g2 1
    ∷ slice_index g2 2 ∷ slice_index g3 2 ∷ slice_index g0 2 ∷ slice_index g1 2
    ∷ slice_index g1 3 ∷ slice_index g2 3 ∷ slice_index g3 3 ∷ slice_index g0 3 ∷ []

-- P
unfoldable pub permutation : List ℕ → List ℕ
permutation v = on_diagonals (on_columns v)
