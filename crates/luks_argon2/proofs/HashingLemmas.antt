-- A message that grows by one byte.
use Rattle.std.proofs.lemmas.Grind.{common_steps}
use Rattle.std.proofs.Common.{◌≡◌, ℕ, zero, suc, ◌+◌, ◌*◌, ◌%◌, ◌^◌, ◌<◌, ◌≤◌, List, [], ◌∷◌, ◌++◌, length, refl, arith}
use Rattle.std.proofs.Common.{◌∙◌, ap, drop, false, length-drop, length-append}
use Rattle.std.proofs.lemmas.List.{drop-append-le, get_or_append_left, get_or-drop}
use Rattle.std.proofs.Math.Seq.{drop-append_seam}
use Rattle.std.specs.Prelude.{slice_index}
use Rattle.luks_argon2.specs.Blake2b.{blocks_before_last, compress, hash_after, message_rest}
use Rattle.luks_argon2.specs.Hashing.{HasherModel, hasher_after}
use Rattle.luks_argon2.specs.Words.{le64_at, le64_words_at}
use Rattle.luks_argon2.proofs.BlakeLemmas.{hash_after_next}

-- an equation of bytes without the sum at 0
at_start : (xs ys : List ℕ) (i j : ℕ) → slice_index xs (i + 0) ≡ slice_index ys (j + 0)
    → slice_index xs i ≡ slice_index ys j
at_start xs ys i j same =
    let left : i ≡ i + 0 = omega arith in
    let right : j + 0 ≡ j = omega arith in
    ap (slice_index xs) left ∙ (same ∙ ap (slice_index ys) right)

-- two lists with the same 8 bytes somewhere have the same word there
word_same : (xs ys : List ℕ) (i j : ℕ) → ((k : ℕ) → k < 8 → slice_index xs (i + k) ≡ slice_index ys (j + k))
    → le64_at xs i ≡ le64_at ys j
unfolding le64_at
word_same xs ys i j same = grind (arith, common_steps, at_start)

-- the same of 16 words
words_same : (xs ys : List ℕ) (i j : ℕ) → ((k : ℕ) → k < 128 → slice_index xs (i + k) ≡ slice_index ys (j + k))
    → le64_words_at xs i ≡ le64_words_at ys j
unfolding le64_words_at
words_same xs ys i j same =
    let regrouped : (a n k : ℕ) → a + n + k ≡ a + (n + k) = λ a n k. omega arith in
    let word : (n : ℕ) → n + 8 ≤ 128 → le64_at xs (i + n) ≡ le64_at ys (j + n) =
    λ n fits. word_same xs ys (i + n) (j + n) (λ k below.
    rw (regrouped i n k, regrouped j n k) (same (n + k) (omega arith))) in
    rw (
      word_same xs ys i j (λ k below. same k (omega arith)),
      word 8 (omega arith),
      word 16 (omega arith),
      word 24 (omega arith),
      word 32 (omega arith),
      word 40 (omega arith),
      word 48 (omega arith),
      word 56 (omega arith),
      word 64 (omega arith),
      word 72 (omega arith),
      word 80 (omega arith),
      word 88 (omega arith),
      word 96 (omega arith),
      word 104 (omega arith),
      word 112 (omega arith),
      word 120 (omega arith),
    ) refl

-- the words of a longer message are the same
words_of_longer : (m t : List ℕ) (i : ℕ) → i + 128 ≤ length m → le64_words_at (m ++ t) i ≡ le64_words_at m i
words_of_longer m t i fits = words_same (m ++ t) m i i (λ k below. get_or_append_left m t 0 (i + k) (omega arith))

-- h after the first blocks of a longer message is the same
hash_of_longer : (n : ℕ) (m t : List ℕ) (k : ℕ) → 128 * k ≤ length m → hash_after n (m ++ t) k ≡ hash_after n m k
unfolding hash_after
hash_of_longer n m t zero fits = refl
hash_of_longer n m t (suc k) fits =
    rw (hash_of_longer n m t k (omega arith), words_of_longer m t (128 * k) (omega arith)) refl

-- the words that a message has from some byte on are those of its rest
words_of_rest : (m : List ℕ) (at : ℕ) → le64_words_at (drop at m) 0 ≡ le64_words_at m at
words_of_rest m at = grind (arith, common_steps, words_same, get_or-drop)

abbrev pub model : List ℕ → ℕ → List ℕ → HasherModel
model hash count rest = record { hash = hash; count = count; rest = rest }

-- a byte that the last block still has place for
pub one_byte_more : (n : ℕ) (m : List ℕ) (x : ℕ) → length (message_rest m) < 128
    → model (hash_after n m (blocks_before_last m)) (128 * blocks_before_last m) (message_rest m ++ x ∷ [])
    ≡ hasher_after n (m ++ x ∷ [])
one_byte_more n m x short = grind (arith, common_steps, length-append, length-drop, hash_of_longer, drop-append-le)

-- a byte that begins a new block
pub one_block_more : (n : ℕ) (m : List ℕ) (x : ℕ) → length (message_rest m) ≡ 128 → length m + 1 < 2 ^ 64
    → model
    (compress (hash_after n m (blocks_before_last m)) (le64_words_at (message_rest m) 0)
    ((128 * blocks_before_last m + 128) % 2 ^ 64) false)
    ((128 * blocks_before_last m + 128) % 2 ^ 64) (x ∷ [])
    ≡ hasher_after n (m ++ x ∷ [])
one_block_more n m x whole small =
    let b = blocks_before_last m in
    let long : length (m ++ x ∷ []) ≡ length m + 1 = length-append m (x ∷ []) in
    let size : length m ≡ 128 * (b + 1) = omega (arith, length-drop (128 * b) m) in
    let next : blocks_before_last (m ++ x ∷ []) ≡ b + 1 = omega (arith, long) in
    let count : (128 * b + 128) % 2 ^ 64 ≡ 128 * (b + 1) = omega arith in
    let rest : drop (128 * (b + 1)) (m ++ x ∷ []) ≡ x ∷ [] = rw (← size) (drop-append_seam m (x ∷ [])) in
    grind (arith, common_steps, hash_after_next, hash_of_longer, words_of_longer, words_of_rest)

-- the bytes so far
pub length_of_rest : (m : List ℕ) → length m < 2 ^ 64
    → (128 * blocks_before_last m + length (message_rest m)) % 2 ^ 64 ≡ length m
length_of_rest m small = omega (arith, length-drop (128 * blocks_before_last m) m)
