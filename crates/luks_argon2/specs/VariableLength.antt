-- H', the hash function of variable length (RFC 9106, section 3.3).
use Rattle.std.specs.Prelude.{ℕ, zero, suc, ◌-◌, ◌*◌, List, [], ◌++◌, if◌then◌else◌, nat_le, take}
use Rattle.std.specs.Int.{div_ceil}
use Rattle.luks_argon2.specs.Blake2b.{blake2b}
use Rattle.luks_argon2.specs.Words.{le32}

-- V_(i+1), from V_1
unfoldable pub v_at : List ℕ → ℕ → List ℕ
v_at v1 zero = v1
v_at v1 (suc i) = blake2b 64 (v_at v1 i)

-- W_1 || W_2 || .. || W_r: the first 32 bytes of each V
unfoldable pub halves : List ℕ → ℕ → List ℕ
halves v1 zero = []
halves v1 (suc r) = halves v1 r ++ take 32 (v_at v1 r)

-- r, for n bytes
abbrev pub half_count : ℕ → ℕ
half_count n = div_ceil n 32 - 2

-- W_1 || W_2 || .. || W_r || V_(r+1), where V_(r+1) has the bytes that n bytes need more
abbrev pub halves_and_last : ℕ → List ℕ → List ℕ
halves_and_last n v1 =
    let r = half_count n in
    halves v1 r ++ blake2b (n - 32 * r) (v_at v1 (r - 1))

-- H'^n of the input
unfoldable pub variable_length_hash : ℕ → List ℕ → List ℕ
variable_length_hash n input =
    if nat_le n 64 then blake2b n (le32 n ++ input)
    else halves_and_last n (blake2b 64 (le32 n ++ input))
