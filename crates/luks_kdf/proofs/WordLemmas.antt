-- The words of digests and their bytes, and digests that follow one another.
use Rattle.std.proofs.lemmas.Grind.{common_steps}
use Rattle.std.proofs.Common.{◌≡◌, ℕ, zero, suc, ◌+◌, ◌*◌, ◌/◌, ◌%◌, ◌^◌, ◌<◌, ◌≤◌, List, [], ◌∷◌, ◌++◌, length, take}
use Rattle.std.proofs.Common.{drop, bit_xor, refl, sym, subst, ap, ap₂, ◌∙◌, arith, length-append}
use Rattle.std.proofs.Common.{length-drop, add_assoc, add-zero, inl, inr}
use Rattle.std.specs.Prelude.{slice_index}
use Rattle.std.specs.Int.{to_be_bytes, w32, w64}
use Rattle.std.specs.Simd.Lanes.{zip2}
use Rattle.std.proofs.lemmas.Bool.{cases_lt}
use Rattle.std.proofs.lemmas.List.{drop-take, get_or-drop, get_or-take, get_or_past, length-take, take-append-le}
use Rattle.std.proofs.lemmas.List.{drop_at, take-take, take_all, take_at}
use Rattle.std.proofs.lemmas.List.FromFn.{get_or-map-range_with_len}
use Rattle.std.proofs.Math.Nat.{mul-le-mul_left}
use Rattle.std.proofs.Math.Seq.{take-add, take-append_seam, drop-append_seam}
use Rattle.std.proofs.lemmas.Nat.{be_bytes_4, be_bytes_8, xor_mod, xor_shr}
use Rattle.sha1.specs.Sha1 as Sha1
use Rattle.sha2.specs.Sha256.{digest_bytes, word_at}
use Rattle.sha2.specs.Sha512 as Sha512
use Rattle.luks_kdf.specs.Chains.{digest_at, xor_words}
use Rattle.luks_kdf.proofs.LaneLemmas.{below_two}

-- ---- words as bytes

pub take_prefix : (n : ℕ) (xs ys : List ℕ) → length xs ≡ n → take n (xs ++ ys) ≡ xs
take_prefix n xs ys h = rw (← h) (take-append_seam xs ys)

pub drop_prefix : (n : ℕ) (xs ys : List ℕ) → length xs ≡ n → drop n (xs ++ ys) ≡ ys
drop_prefix n xs ys h = rw (← h) (drop-append_seam xs ys)

zip2_joined : (a b x y : List ℕ) → length a ≡ length b
    → zip2 bit_xor (a ++ x) (b ++ y) ≡ zip2 bit_xor a b ++ zip2 bit_xor x y
zip2_joined [] [] x y h = refl
zip2_joined (a ∷ more) (b ∷ rest) x y h =
    ap (λ (l : List ℕ). bit_xor a b ∷ l) (zip2_joined more rest x y (omega arith))
zip2_joined _ _ x y h = absurd (omega arith)

-- how words are written as bytes: `bytes h n` has the first n words of h, one after the other, each as the `size` bytes
-- that `spell` gives, and `read` reads one back
pub record Spells (bytes : List ℕ → ℕ → List ℕ) (spell : ℕ → List ℕ) (read : List ℕ → ℕ → ℕ) (size : ℕ) : Type 0 where
  pub none : (h : List ℕ) → bytes h 0 ≡ []
  pub more : (h : List ℕ) (n : ℕ) → bytes h (suc n) ≡ bytes h n ++ spell (slice_index h n)
  pub long : (x : ℕ) → length (spell x) ≡ size
  pub xored : (x y : ℕ) → zip2 bit_xor (spell x) (spell y) ≡ spell (bit_xor x y)
  pub reread : (bs : List ℕ) (i : ℕ) → ((k : ℕ) → slice_index bs k < 256) → i + size ≤ length bs
      → spell (read bs i) ≡ take size (drop i bs)

module _ (bytes : List ℕ → ℕ → List ℕ) (spell : ℕ → List ℕ) (read : List ℕ → ℕ → ℕ) (size : ℕ)
    (is : Spells bytes spell read size) where
  pub length-bytes : (h : List ℕ) (n : ℕ) → length (bytes h n) ≡ n * size
  length-bytes h zero = omega (arith, ap length (is.none h))
  length-bytes h (suc n) =
      omega (
        arith,
        ap length (is.more h n),
        length-append (bytes h n) (spell (slice_index h n)),
        is.long (slice_index h n),
        length-bytes h n,
      )

  xor_digests : (a b c : List ℕ) (n : ℕ)
      → ((k : ℕ) → k < n → slice_index c k ≡ bit_xor (slice_index a k) (slice_index b k))
      → zip2 bit_xor (bytes a n) (bytes b n) ≡ bytes c n
  xor_digests a b c zero each = rw (is.none a, is.none c) refl
  xor_digests a b c (suc n) each =
      rw (is.more a n, is.more b n, is.more c n)
      (zip2_joined (bytes a n) (bytes b n) _ _ (length-bytes a n ∙ sym (length-bytes b n))
      ∙ ap₂ ◌++◌ (xor_digests a b c n (λ k below. each k (omega arith)))
      (is.xored (slice_index a n) (slice_index b n) ∙ ap spell (sym (each n (omega arith)))))

  -- the bytes of the XOR of m words are the XOR of the bytes, also of the first n alone
  pub xor_of_words : (m n : ℕ) → n ≤ m → (a b : List ℕ)
      → zip2 bit_xor (bytes a n) (bytes b n) ≡ bytes (xor_words m a b) n
  unfolding xor_words
  xor_of_words m n le a b =
      let xored = λ (k : ℕ). bit_xor (slice_index a k) (slice_index b k) in
      xor_digests a b (xor_words m a b) n
      (λ k below. get_or-map-range_with_len xored 0 m k k 0 (omega arith) (omega arith))

  -- n words that are read from bytes have these bytes
  pub words_of_bytes : (h bs : List ℕ) → ((i : ℕ) → slice_index bs i < 256) → (n : ℕ) → size * n ≤ length bs
      → ((k : ℕ) → k < n → slice_index h k ≡ read bs (size * k)) → bytes h n ≡ take (size * n) bs
  words_of_bytes h bs fits zero long each =
      let nothing : size * 0 ≡ 0 = omega arith in
      rw (is.none h, nothing) refl
  words_of_bytes h bs fits (suc n) long each =
      let i = size * n in
      let next : size * suc n ≡ i + size = omega arith in
      let last : spell (slice_index h n) ≡ take size (drop i bs) =
      ap spell (each n (omega arith)) ∙ is.reread bs i fits (omega arith) in
      is.more h n
      ∙ (ap₂ ◌++◌ (words_of_bytes h bs fits n (omega arith) (λ k below. each k (omega arith))) last
      ∙ sym (ap (λ m. take m bs) next ∙ take-add i size bs))

-- a byte of the XOR of two words is the XOR of their bytes
xor_byte : (x y k : ℕ) → bit_xor (x / 2 ^ k % 2 ^ 8) (y / 2 ^ k % 2 ^ 8) ≡ bit_xor x y / 2 ^ k % 2 ^ 8
xor_byte x y k = sym (ap (λ (n : ℕ). n % 2 ^ 8) (xor_shr x y k) ∙ xor_mod (x / 2 ^ k) (y / 2 ^ k) 8)

xor_word32 : (x y : ℕ) → zip2 bit_xor (to_be_bytes w32 x) (to_be_bytes w32 y) ≡ to_be_bytes w32 (bit_xor x y)
xor_word32 x y = rw (xor_byte x y 24, xor_byte x y 16, xor_byte x y 8, xor_mod x y 8) refl

xor_word64 : (x y : ℕ) → zip2 bit_xor (to_be_bytes w64 x) (to_be_bytes w64 y) ≡ to_be_bytes w64 (bit_xor x y)
xor_word64 x y =
    rw (
      xor_byte x y 56,
      xor_byte x y 48,
      xor_byte x y 40,
      xor_byte x y 32,
      xor_byte x y 24,
      xor_byte x y 16,
      xor_byte x y 8,
      xor_mod x y 8,
    ) refl

take_four : (bs : List ℕ) → 4 ≤ length bs
    → take 4 bs ≡ slice_index bs 0 ∷ slice_index bs 1 ∷ slice_index bs 2 ∷ slice_index bs 3 ∷ []
take_four (a ∷ b ∷ c ∷ d ∷ bs) long = refl
take_four _ long = absurd (omega arith)

take_eight : (bs : List ℕ) → 8 ≤ length bs
    → take 8 bs ≡ slice_index bs 0 ∷ slice_index bs 1 ∷ slice_index bs 2 ∷ slice_index bs 3 ∷ slice_index bs 4
    ∷ slice_index bs 5 ∷ slice_index bs 6 ∷ slice_index bs 7 ∷ []
take_eight (a ∷ b ∷ c ∷ d ∷ e ∷ f ∷ g ∷ h ∷ bs) long = refl
take_eight _ long = absurd (omega arith)

-- a part of a list of bytes has bytes
part_fits : (bs : List ℕ) (n i : ℕ) → ((k : ℕ) → slice_index bs k < 256) → (k : ℕ)
    → slice_index (take n (drop i bs)) k < 256
part_fits bs n i fits k = elim (cases_lt k n) [
  | inl inside ↦ rw (get_or-take n (drop i bs) k 0 inside, get_or-drop i bs k 0) (fits (i + k))
  | inr past ↦ rw (get_or_past (take n (drop i bs)) k 0 (omega (arith, length-take n (drop i bs)))) (omega arith)
]

pub spells32 : Spells digest_bytes (to_be_bytes w32) word_at 4
unfolding digest_bytes
spells32 = record {
  none = λ h. refl;
  more = λ h n. refl;
  long = λ x. refl;
  xored = xor_word32;
  reread = λ bs i fits long.
      let at : take 4 (drop i bs)
      ≡ slice_index bs i ∷ slice_index bs (i + 1) ∷ slice_index bs (i + 2) ∷ slice_index bs (i + 3) ∷ [] =
      take_four (drop i bs) (omega (arith, length-drop i bs)) ∙ simp (get_or-drop, add-zero) in
      be_bytes_4 _ (word_at bs i) refl (λ k. subst (λ l. slice_index l k < 256) at (part_fits bs 4 i fits k)) refl
      ∙ sym at;
}

pub spells64 : Spells Sha512.digest_bytes (to_be_bytes w64) Sha512.word_at 8
unfolding Sha512.digest_bytes
spells64 = record {
  none = λ h. refl;
  more = λ h n. refl;
  long = λ x. refl;
  xored = xor_word64;
  reread = λ bs i fits long.
      let at : take 8 (drop i bs)
      ≡ slice_index bs i ∷ slice_index bs (i + 1) ∷ slice_index bs (i + 2) ∷ slice_index bs (i + 3)
      ∷ slice_index bs (i + 4) ∷ slice_index bs (i + 5) ∷ slice_index bs (i + 6) ∷ slice_index bs (i + 7) ∷ [] =
      take_eight (drop i bs) (omega (arith, length-drop i bs)) ∙ simp (get_or-drop, add-zero) in
      be_bytes_8 _ (Sha512.word_at bs i) refl (λ k. subst (λ l. slice_index l k < 256) at (part_fits bs 8 i fits k))
      refl ∙ sym at;
}

pub length-digest_bytes : (h : List ℕ) (n : ℕ) → length (digest_bytes h n) ≡ n * 4
length-digest_bytes = length-bytes digest_bytes (to_be_bytes w32) word_at 4 spells32

-- SHA-1 and SHA-256 write their words as bytes in the same way
pub same_bytes : (h : List ℕ) (n : ℕ) → Sha1.digest_bytes h n ≡ digest_bytes h n
unfolding digest_bytes Sha1.digest_bytes
same_bytes h zero = refl
same_bytes h (suc n) = ap (λ (l : List ℕ). l ++ to_be_bytes w32 (slice_index h n)) (same_bytes h n)

-- a word of the bytes from index `at` on
word_from : (bs : List ℕ) (at i : ℕ) → word_at (drop at bs) i ≡ word_at bs (at + i)
word_from bs at i = simp (get_or-drop, add_assoc)

-- the words that are read from digest j of several have the bytes of that digest
pub words_of_digest : (h bs : List ℕ) → ((i : ℕ) → slice_index bs i < 256) → (n j : ℕ) → 4 * n * j + 4 * n ≤ length bs
    → ((k : ℕ) → k < n → slice_index h k ≡ word_at bs (4 * n * j + 4 * k)) → digest_bytes h n ≡ digest_at (4 * n) j bs
words_of_digest h bs fits n j long each =
    let at : ℕ = 4 * n * j in
    words_of_bytes digest_bytes (to_be_bytes w32) word_at 4 spells32 h (drop at bs)
    (λ i. rw (get_or-drop at bs i 0) (fits (at + i))) n
    (omega (arith, length-drop at bs)) (λ k below. each k below ∙ sym (word_from bs at (4 * k)))

-- two digests, one after the other
pub two_digests : (f : ℕ → List ℕ) (a b : List ℕ) (size : ℕ) → length (f 0) ≡ size → length (f 1) ≡ size
    → a ≡ f 0 → b ≡ f 1 → (j : ℕ) → j < 2 → digest_at size j (a ++ b) ≡ f j
two_digests f a b size one two is_a is_b = grind (arith, common_steps, below_two, take_at, drop_at, take_all)

-- ---- digests that are written one after the other

-- digest k is the one that was written last
written_at : (size k : ℕ) (now digest rest : List ℕ) → size * k ≤ length now → length digest ≡ size
    → digest_at size k (take (size * k) now ++ (digest ++ rest)) ≡ digest
written_at size k now digest rest inside whole = grind (arith, common_steps, length-take, drop_at, take_at)

-- a digest before it is unchanged
written_before : (size k j : ℕ) (now rest : List ℕ) → size * k ≤ length now → j < k
    → digest_at size j (take (size * k) now ++ rest) ≡ digest_at size j now
written_before size k j now rest inside before =
    let start = size * j in
    let prefix = take (size * k) now in
    let index : start + size ≤ size * k =
    omega (arith, mul-le-mul_left {m = j + 1} {n = k} size (omega arith)) in
    sym (drop-take start size (prefix ++ rest)) ∙ (ap (drop start)
    (take-append-le (start + size) prefix rest (omega (arith, length-take (size * k) now))
    ∙ take-take (start + size) (size * k) now index) ∙ drop-take start size now)

-- if the digests before number k are those of f and digest k is written, those before number k + 1 are
pub written_next : (size k j : ℕ) (now digest rest : List ℕ) (f : ℕ → List ℕ)
    → size * k ≤ length now → length digest ≡ size
    → ((i : ℕ) → i < k → digest_at size i now ≡ f i) → digest ≡ f k → j < k + 1
    → digest_at size j (take (size * k) now ++ (digest ++ rest)) ≡ f j
written_next size k j now digest rest f inside whole so_far is_next below = elim (cases_lt j k) [
  | inl before ↦ written_before size k j now (digest ++ rest) inside before ∙ so_far j before
  | inr at ↦
      let last : k ≡ j = omega arith in
      rw (← last) (written_at size k now digest rest inside whole ∙ is_next)
]
