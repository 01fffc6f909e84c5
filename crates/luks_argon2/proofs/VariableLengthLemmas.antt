-- The digests of H', one after the other.
use Rattle.std.proofs.lemmas.Grind.{common_steps}
use Rattle.std.proofs.Common.{◌≡◌, ℕ, ◌+◌, ◌-◌, ◌*◌, ◌≤◌, List, length, take, refl, arith}
use Rattle.std.proofs.Common.{add-one}
use Rattle.std.proofs.Common.{append-nil, drop_of_length-le, length-drop}
use Rattle.std.proofs.lemmas.Slice.{take-put_mid}
use Rattle.luks_argon2.specs.Blake2b.{blake2b}
use Rattle.luks_argon2.specs.VariableLength.{half_count, halves, halves_and_last, v_at}
use borrow.Rule.Slice.PartMut.{put_mid}

pub v_next : (m : List ℕ) (i : ℕ) → v_at m (i + 1) ≡ blake2b 64 (v_at m i)
unfolding v_at
v_next m i = rw add-one refl

-- one more half is written
pub halves_more : (out ys m : List ℕ) (i k : ℕ) → take (32 * i) out ≡ halves m i → 32 * i ≤ length out
    → ys ≡ take 32 (v_at m i) → length ys ≡ 32 → take (32 * (i + 1)) (put_mid (32 * i) k out ys) ≡ halves m (i + 1)
unfolding halves
halves_more out ys m i k held fits is long = grind (arith, common_steps, take-put_mid, add-one)

-- after the halves and the last digest, all is filled
pub long_is : (out last m : List ℕ) (n : ℕ) → length out ≡ n
    → take (32 * half_count n) out ≡ halves m (half_count n)
    → last ≡ blake2b (n - 32 * half_count n) (v_at m (half_count n - 1))
    → length last ≡ n - 32 * half_count n
    → put_mid (32 * half_count n) (n - 32 * half_count n) out last ≡ halves_and_last n m
long_is out last m n all before is size = grind (arith, common_steps, drop_of_length-le, length-drop, append-nil)
