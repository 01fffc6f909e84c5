-- Without magic bytes there is no header.
use Rattle.std.proofs.Common.{rules}
use Rattle.std.proofs.lemmas.Grind.{common_steps}
use Rattle.std.proofs.Common.{◌≡◌, ◌∙◌, ℕ, ◌+◌, ◌*◌, ◌<◌, ◌≤◌, ◌++◌}
use Rattle.std.proofs.Common.{List, [], ◌∷◌, Bool, true, false, None, ap, sym}
use Rattle.std.proofs.Common.{refl, length, take, drop, arith, ◌==◌}
use Rattle.std.specs.Prelude.{map, nat_le, if◌then◌else◌, option_and_then}
use Rattle.std.specs.List.{find, list_all, list_any}
use Rattle.std.proofs.lemmas.Bool.{and_parts, false_from_ne_true, leb-true, ltb-false, ltb-true, or_parts}
use Rattle.std.proofs.lemmas.List.{drop-drop, drop_all, take-append-le, take-take}
use Rattle.std.proofs.lemmas.Slice.Eq.{bytes_eq-Decides}
use Rattle.luks_format.specs.Header1.{is_luks1}
use Rattle.luks_format.specs.Choice2.{beginning_at, chosen2_of, fits}
use Rattle.luks_format.specs.Choice2.{header2_at, is_binary_of, is_valid}
use Rattle.luks_format.specs.Header2.{sizes}
use Rattle.luks_format.specs.declared.binary_header2.HeaderRole.TheVariants.{Secondary}
use Rattle.luks_format.proofs.Choice2Lemmas.{chosen_other}
use Rattle.luks_format.proofs.Valid2Lemmas.{fits_parts, unfit-is_valid}
use Rattle.luks_header.specs.Header.{header_of}
use Rattle.luks_header.proofs.LoadingLemmas.{header_other}
use Rattle.luks_audit_run.specs.Magic.{IsQuiet, begins_magic, may_have_header}
use Rattle.luks_audit_run.specs.Places.{found_in}

-- the first eight bytes begin with the magic bytes
begins_by : (bytes : List ℕ) (p q : ℕ)
    → take 8 bytes ≡ 0x4c ∷ 0x55 ∷ 0x4b ∷ 0x53 ∷ 0xba ∷ 0xbe ∷ p ∷ q ∷ [] → begins_magic bytes ≡ true
unfolding begins_magic
begins_by bytes p q e = grind (arith, common_steps, take-take)

begins_by_second : (bytes : List ℕ) (p q : ℕ)
    → take 8 bytes ≡ 0x53 ∷ 0x4b ∷ 0x55 ∷ 0x4c ∷ 0xba ∷ 0xbe ∷ p ∷ q ∷ [] → begins_magic bytes ≡ true
unfolding begins_magic
begins_by_second bytes p q e = grind (arith, common_steps, take-take)

-- a LUKS1 header begins with them
pub first_magic : (bytes : List ℕ) → begins_magic bytes ≡ false → is_luks1 bytes ≡ false
unfolding is_luks1
first_magic bytes none = grind (arith, common_steps, false_from_ne_true, bytes_eq-Decides, begins_by)

-- so does a binary header of LUKS2
pub fits_magic : (bytes : List ℕ) (offset : ℕ) → begins_magic (drop offset bytes) ≡ false → fits bytes offset ≡ false
unfolding is_binary_of beginning_at
fits_magic bytes offset none = false_from_ne_true _ (λ is.
    let binary = (fits_parts bytes offset is).1 in
    let four = and_parts _ _ binary in
    let three = and_parts _ _ four.0 in
    let two = and_parts _ _ three.0 in
    let one = and_parts _ _ two.0 in
    let e = (bytes_eq-Decides _ _).0 one.0 in
    let cut : take 8 (take 4096 (drop offset bytes)) ≡ take 8 (drop offset bytes) = search (rules, take-take) in
    by (offset == 0) (sym cut ∙ e))
  where
    by : (first : Bool)
        → take 8 (drop offset bytes)
        ≡ (if first then 0x4c ∷ 0x55 ∷ 0x4b ∷ 0x53 ∷ 0xba ∷ 0xbe ∷ 0x00 ∷ 0x02 ∷ []
        else 0x53 ∷ 0x4b ∷ 0x55 ∷ 0x4c ∷ 0xba ∷ 0xbe ∷ 0x00 ∷ 0x02 ∷ []) → ⊥
    by true e = (let wrong : true ≡ false = sym (begins_by (drop offset bytes) 0x00 0x02 e) ∙ none in cc)
    by false e = (let wrong : true ≡ false = sym (begins_by_second (drop offset bytes) 0x00 0x02 e) ∙ none in cc)

-- if no offset passes a test, none is found
find_none : (test : ℕ → Bool) (valid : ℕ → Bool) (offsets : List ℕ)
    → ((offset : ℕ) → test offset ≡ false → valid offset ≡ false) → list_any test offsets ≡ false
    → find valid offsets ≡ None
find_none test valid [] fails none = refl
find_none test valid (offset ∷ offsets) fails none =
    let parts = or_parts (test offset) (list_any test offsets) none in
    rw (fails offset parts.0) (find_none test valid offsets fails parts.1)

-- bytes that fail the test have no header
pub quiet_none : (bytes : List ℕ) → may_have_header bytes ≡ false → found_in (header_of bytes) ≡ None
unfolding may_have_header
quiet_none bytes none =
    let parts = or_parts (begins_magic bytes) _ none in
    let unfit : (offset : ℕ) → begins_magic (drop offset bytes) ≡ false → is_valid bytes offset ≡ false =
    λ offset quiet. unfit-is_valid bytes offset (fits_magic bytes offset quiet) in
    let first : is_valid bytes 0 ≡ false = unfit 0 parts.0 in
    let search : find (is_valid bytes) sizes ≡ None = grind (arith, common_steps, find_none) in
    let chosen : chosen2_of bytes ≡ None =
    chosen_other bytes first ∙ ap (option_and_then (header2_at bytes Secondary)) search in
    ap found_in (header_other bytes (first_magic bytes parts.0) None chosen)

-- nothing has no header
pub nothing_none : found_in (header_of []) ≡ None
unfolding may_have_header begins_magic sizes
nothing_none = quiet_none [] refl

-- ---- bytes of which no sector begins with the magic bytes

-- the first six bytes decide
pub six_decide : (bytes rest : List ℕ) → 6 ≤ length bytes → begins_magic (bytes ++ rest) ≡ begins_magic bytes
unfolding begins_magic
six_decide bytes rest long = rw (take-append-le 6 bytes rest long) refl

-- no multiple of 512 up to the largest offset of a secondary header passes a test
any_none : (test : ℕ → Bool) (numbers : List ℕ) → ((k : ℕ) → k ≤ 8192 → test (512 * k) ≡ false)
    → list_all (λ k. nat_le k 8192) numbers ≡ true → list_any test (map (λ k. 512 * k) numbers) ≡ false
any_none test [] none all = refl
any_none test (k ∷ numbers) none all =
    let parts = and_parts _ _ all in
    rw (none k (leb-true k 8192 parts.0)) (any_none test numbers none parts.1)

-- a sector has no header if neither it nor one of those in reach begins with the magic bytes
pub quiet_at : (image : List ℕ) (j : ℕ)
    → ((k : ℕ) → k ≤ 8192 → begins_magic (drop (512 * (j + k)) image) ≡ false)
    → may_have_header (drop (512 * j) image) ≡ false
unfolding may_have_header sizes
quiet_at image j none =
    let test : ℕ → Bool = λ size. begins_magic (drop size (drop (512 * j) image)) in
    let fails : (k : ℕ) → k ≤ 8192 → test (512 * k) ≡ false =
    λ k low.
    ap begins_magic (drop-drop (512 * k) (512 * j) image ∙ ap (λ n. drop n image) (same k)) ∙ none k low in
    rw (ap (λ n. begins_magic (drop n image)) first ∙ none 0 (omega arith))
    (any_none test (32 ∷ 64 ∷ 128 ∷ 256 ∷ 512 ∷ 1024 ∷ 2048 ∷ 4096 ∷ 8192 ∷ []) fails refl)
  where
    same : (k : ℕ) → 512 * j + 512 * k ≡ 512 * (j + k)
    same k = omega arith

    first : 512 * j ≡ 512 * (j + 0)
    first = omega arith

-- if none of the first n sectors begins with the magic bytes, and these are all, none does
pub quiet_all : (bytes : List ℕ) (n : ℕ) → length bytes ≤ 512 * n
    → ((k : ℕ) → k < n → begins_magic (drop (512 * k) bytes) ≡ false) → IsQuiet bytes
unfolding begins_magic
quiet_all bytes n all none k = grind (arith, common_steps, ltb-true, ltb-false, drop_all)
