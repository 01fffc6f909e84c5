-- The order of the words of a block, rounds and blocks.
use Rattle.std.proofs.lemmas.Grind.{common_steps}
use Rattle.std.proofs.Common.{◌≡◌, ℕ, zero, suc, ◌+◌, ◌*◌, ◌%◌, ◌<◌, List, [], ◌∷◌, refl, arith}
use Rattle.std.proofs.Common.{ap, add-one, false, true, ltb}
use Rattle.std.proofs.lemmas.Bool.{and_parts, ltb-true}
use Rattle.std.specs.Prelude.{slice_index, slice_index_or}
use Rattle.std.specs.List.{list_all}
use Rattle.std.specs.Simd.Lanes.{all_below}
use Rattle.luks_argon2.specs.Blake2b.{compress, hash_after, round, rounds, sigma}
use Rattle.luks_argon2.specs.Words.{le64_words_at}

-- tests on a list and on a list of lists, at each index
below_16 : (xs : List ℕ) → all_below 16 xs ≡ true → (k : ℕ) → slice_index xs k < 16
below_16 [] test k = omega arith
below_16 (x ∷ xs) test zero = ltb-true x 16 (and_parts (ltb x 16) (all_below 16 xs) test).0
below_16 (x ∷ xs) test (suc k) = below_16 xs (and_parts (ltb x 16) (all_below 16 xs) test).1 k

rows_below : (rows : List (List ℕ)) → list_all (all_below 16) rows ≡ true → (r k : ℕ)
    → slice_index (slice_index_or rows r []) k < 16
rows_below rows test r k = grind (arith, common_steps, below_16, and_parts)

pub sigma_below : (r : ℕ) → r < 10 → (k : ℕ) → k < 16 → slice_index (slice_index_or sigma r []) k < 16
sigma_below r h k below = rows_below sigma refl r k

pub rounds_next : (m v : List ℕ) (n : ℕ)
    → rounds m v (n + 1) ≡ round (rounds m v n) m (slice_index_or sigma (n % 10) [])
unfolding rounds
rounds_next m v n = rw add-one refl

pub hash_after_next : (n : ℕ) (m : List ℕ) (k : ℕ)
    → hash_after n m (k + 1) ≡ compress (hash_after n m k) (le64_words_at m (128 * k)) (128 * (k + 1)) false
unfolding hash_after
hash_after_next n m k = ap (hash_after n m) (add-one k)
