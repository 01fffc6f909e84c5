-- Words and their bytes.
use Rattle.std.proofs.lemmas.Grind.{common_steps}
use Rattle.std.proofs.Common.{◌≡◌, ℕ, ◌+◌, ◌*◌, ◌<◌, ◌≤◌, List, [], ◌∷◌, ◌++◌, length, take, drop, refl, arith}
use Rattle.std.proofs.Common.{◌∙◌, ap, sym, append_assoc}
use Rattle.std.proofs.lemmas.List.{drop_at, take_at, take_more}
use Rattle.std.proofs.lemmas.Slice.{take-put_mid}
use Rattle.std.specs.Prelude.{slice_index}
use Rattle.std.specs.Int.{to_le_bytes, w64}
use Rattle.luks_argon2.specs.Words.{le64_bytes}
use Rattle.std.proofs.Common.{append-nil, drop_of_length-le}
use borrow.Rule.Slice.PartMut.{put_mid}

pub le64_bytes-append : (xs ys : List ℕ) → le64_bytes (xs ++ ys) ≡ le64_bytes xs ++ le64_bytes ys
unfolding le64_bytes
le64_bytes-append [] ys = refl
le64_bytes-append (x ∷ xs) ys =
    ap (λ (l : List ℕ). to_le_bytes w64 x ++ l) (le64_bytes-append xs ys)
    ∙ sym (append_assoc (to_le_bytes w64 x) (le64_bytes xs) (le64_bytes ys))

-- one more word is written
pub bytes_more : (out words ys : List ℕ) (i k : ℕ) → i < length words → take (8 * i) out ≡ le64_bytes (take i words)
    → 8 * i ≤ length out → ys ≡ to_le_bytes w64 (slice_index words i)
    → take (8 * (i + 1)) (put_mid (8 * i) k out ys) ≡ le64_bytes (take (i + 1) words)
unfolding le64_bytes
bytes_more out words ys i k inside held fits is =
    grind (arith, common_steps, take-put_mid, take_more, le64_bytes-append)

-- eight bytes behind 64
pub joined_after : (a z b : List ℕ) → length a ≡ 64 → length z ≡ 8 → put_mid 64 8 (a ++ z) b ≡ a ++ b
joined_after a z b la lz =
    let short : length z ≤ 8 = omega (arith, lz) in
    let past : drop 8 z ≡ [] = drop_of_length-le z short in
    rw (take_at a z 64 la, drop_at a z 64 la, past, append-nil) refl
