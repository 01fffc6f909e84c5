-- Properties of a LUKS2 header that fits or is valid, in an image and in its loaded start.
use Rattle.std.proofs.lemmas.Grind.{common_steps}
use Rattle.std.proofs.Common.{◌≡◌, ◌∙◌, ◌==◌, ◌||◌, ℕ, ◌+◌, ◌<◌, ◌≤◌, List, Some, Bool, true, false, ap}
use Rattle.std.proofs.Common.{refl, length, max, arith, ◌&&◌, [], ◌∷◌, ◌++◌}
use Rattle.std.proofs.Common.{length-append, length-drop}
use Rattle.std.specs.Prelude.{filter, map, nat_lt, not}
use Rattle.std.specs.List.{list_any, find}
use Rattle.std.proofs.lemmas.Bool.{and_parts, cases_lt, leb-true, eqb-true, le-leb, lt-leb, ne_eqb}
use Rattle.std.proofs.lemmas.Bool.Decides.{nat_tests}
use Rattle.std.proofs.lemmas.List.{drop-append-le, take-append-le}
use Rattle.luks_format.specs.Fields.{at}
use Rattle.luks_format.specs.Choice2.{binary_at, fits, is_binary_of, is_valid, size_at}
use Rattle.luks_format.specs.ReadLen2.{furthest, probe_end}
use Rattle.luks_format.specs.Header2.{size_in, sizes}

-- the range of a length that is one of the nine
known_size : (n : ℕ) → list_any (λ size. size == n) sizes ≡ true → (16384 ≤ n) × (n ≤ 4194304)
unfolding sizes
known_size n h = (grind (arith, nat_tests), grind (arith, nat_tests))

module _ (offset : ℕ) (binary : List ℕ) (is : is_binary_of offset binary ≡ true) where
  -- two tests of a binary header: its length is one of the nine, and that of a secondary header is its offset
  tests : (list_any (λ size. size == size_in binary) sizes ≡ true) × ((offset == 0 || size_in binary == offset) ≡ true)
  unfolding is_binary_of
  tests = grind (arith, common_steps, and_parts)

  -- the length of a header is one of the nine
  pub size_range : (16384 ≤ size_in binary) × (size_in binary ≤ 4194304)
  size_range = known_size (size_in binary) tests.0

  -- the length of a header that is not primary is its offset
  size_is_offset : (offset ≡ 0 → ⊥) → size_in binary ≡ offset
  size_is_offset some = eqb-true (size_in binary) offset (rw (ne_eqb offset 0 some) at tests.1)

module _ (image : List ℕ) (offset : ℕ) where
  -- if a header fits, its binary header is in the image
  pub fits_parts : fits image offset ≡ true
      → (offset + 4096 ≤ length image) × (is_binary_of offset (binary_at image offset) ≡ true)
  unfolding fits
  fits_parts h = grind (arith, common_steps, and_parts, leb-true)

  -- the length of a header that fits and is not primary is its offset
  pub own_size : fits image offset ≡ true → (offset ≡ 0 → ⊥) → size_at image offset ≡ offset
  own_size h some = size_is_offset offset (binary_at image offset) (fits_parts h).1 some

  -- no header fits if the image ends before a binary header does
  pub short-fits : length image < offset + 4096 → fits image offset ≡ false
  unfolding fits
  short-fits h = rw (lt-leb (offset + 4096) (length image) h) refl

  -- a header that does not fit is not valid
  pub unfit-is_valid : fits image offset ≡ false → is_valid image offset ≡ false
  unfolding is_valid
  unfit-is_valid h = rw h refl

  -- a valid header fits, and all of it is in the image
  pub valid_parts : is_valid image offset ≡ true
      → (fits image offset ≡ true) × (offset + size_at image offset ≤ length image)
  unfolding is_valid
  valid_parts h = grind (arith, common_steps, and_parts, leb-true)

  -- the binary header of a valid header is in the image, and its length is in the range of the nine
  pub valid_range : is_valid image offset ≡ true
      → (offset + 4096 ≤ length image) × (16384 ≤ size_at image offset) × (size_at image offset ≤ 4194304)
  valid_range h =
      let fit = fits_parts (valid_parts h).0 in
      let range = size_range offset (binary_at image offset) fit.1 in
      (fit.0, range.0, range.1)

  -- at least a binary header's length is read to check an offset
  pub probe_least : offset + 4096 ≤ probe_end image offset
  unfolding probe_end
  probe_least = omega arith

  -- no more is read to check an offset if no header fits
  pub probe_unfit : fits image offset ≡ false → probe_end image offset ≡ offset + 4096
  unfolding probe_end
  probe_unfit is = rw is (omega arith)

  -- the whole header is read to check an offset if one fits
  pub probe_fit : fits image offset ≡ true
      → probe_end image offset ≡ max (offset + 4096) (offset + size_at image offset)
  unfolding probe_end
  probe_fit is = rw is refl

-- ---- an image that starts with loaded bytes has the same headers, as far as it is loaded

module _ (loaded more image : List ℕ) (is : image ≡ loaded ++ more) where
  -- loaded bytes are the image's
  pub at_more : (offset n : ℕ) → offset + n ≤ length loaded → at offset n image ≡ at offset n loaded
  at_more offset n within = grind (arith, common_steps, drop-append-le, take-append-le, length-drop)

  -- an image is no shorter than its start
  pub longer : length loaded ≤ length image
  longer = omega (arith, ap length is, length-append loaded more)

  -- if a binary header's length is loaded, a header fits the image if and only if it fits the loaded bytes
  fits_more : (offset : ℕ) → offset + 4096 ≤ length loaded → fits image offset ≡ fits loaded offset
  unfolding fits
  fits_more offset within =
      rw (
        le-leb (offset + 4096) (length loaded) within,
        le-leb (offset + 4096) (length image) (omega (arith, longer)),
        at_more offset 4096 within,
      ) refl

  -- as many bytes of the image are read to check the offset, or more
  pub probe_more : (offset : ℕ) → offset + 4096 ≤ length loaded → probe_end image offset ≡ probe_end loaded offset
  unfolding probe_end
  probe_more offset within = rw (fits_more offset within, at_more offset 4096 within) refl

  pub probe_grows : (offset : ℕ) → probe_end loaded offset ≤ probe_end image offset
  probe_grows offset = grind (arith, common_steps, cases_lt, probe_least, probe_unfit, short-fits, probe_more)

  -- if all bytes that are read to check it are loaded, a header is valid in the image if and only if it is there
  pub valid_more : (offset : ℕ) → probe_end loaded offset ≤ length loaded
      → is_valid image offset ≡ is_valid loaded offset
  unfolding is_valid
  valid_more offset whole = by (fits loaded offset) refl where
    there : offset + 4096 ≤ length loaded
    there = omega (arith, probe_least loaded offset, whole)

    by : (fit : Bool) → fits loaded offset ≡ fit → is_valid image offset ≡ is_valid loaded offset
    by true fit =
        let end : offset + size_at loaded offset ≤ length loaded = omega (arith, probe_fit loaded offset fit, whole) in
        rw (
          fits_more offset there,
          fit,
          at_more offset 4096 there,
          le-leb (offset + size_at loaded offset) (length loaded) end,
          le-leb (offset + size_at loaded offset) (length image) (omega (arith, end, longer)),
          at_more offset (size_at loaded offset) end,
        ) refl
    by false fit = rw (fits_more offset there, fit) refl

-- ---- how far the search for a secondary header reads, without a walk over the offsets

-- the maximum of some numbers
abbrev pub max_of : List ℕ → ℕ
max_of [] = 0
max_of (number ∷ numbers) = max number (max_of numbers)

-- no lower one of the nine offsets has a valid header
abbrev pub is_tried : (ℕ → Bool) → ℕ → Bool
is_tried valid offset = not (list_any (λ other. nat_lt other offset && valid other) sizes)

module _ (valid : ℕ → Bool) (probe : ℕ → ℕ) where
  -- the walk reads as far as the offsets that are tried
  abbrev pub ReadsTried : Type 0
  ReadsTried = furthest valid probe sizes ≡ max_of (map probe (filter (is_tried valid) sizes))

  -- for each offset that is the first valid one, and for none
  one_by : (a b c d e f g h i : Bool) → valid 16384 ≡ a → valid 32768 ≡ b → valid 65536 ≡ c → valid 131072 ≡ d
      → valid 262144 ≡ e → valid 524288 ≡ f → valid 1048576 ≡ g → valid 2097152 ≡ h → valid 4194304 ≡ i → ReadsTried
  unfolding sizes furthest
  one_by true _ _ _ _ _ _ _ _ a _ _ _ _ _ _ _ _ = rw a refl
  one_by false true _ _ _ _ _ _ _ a b _ _ _ _ _ _ _ = rw (a, b) refl
  one_by false false true _ _ _ _ _ _ a b c _ _ _ _ _ _ = rw (a, b, c) refl
  one_by false false false true _ _ _ _ _ a b c d _ _ _ _ _ = rw (a, b, c, d) refl
  one_by false false false false true _ _ _ _ a b c d e _ _ _ _ = rw (a, b, c, d, e) refl
  one_by false false false false false true _ _ _ a b c d e f _ _ _ = rw (a, b, c, d, e, f) refl
  one_by false false false false false false true _ _ a b c d e f g _ _ = rw (a, b, c, d, e, f, g) refl
  one_by false false false false false false false true _ a b c d e f g h _ = rw (a, b, c, d, e, f, g, h) refl
  one_by false false false false false false false false true a b c d e f g h i = rw (a, b, c, d, e, f, g, h, i) refl
  one_by false false false false false false false false false a b c d e f g h i = rw (a, b, c, d, e, f, g, h, i) refl

  pub furthest_is : ReadsTried
  furthest_is = grind (arith, common_steps, one_by)

-- ---- the search for a secondary header, offset by offset

-- an offset that is found among others passes the test
pub found_passes : (test : ℕ → Bool) (offsets : List ℕ) (offset : ℕ) → find test offsets ≡ Some offset
    → test offset ≡ true
found_passes test [] offset is = absurd (cc)
found_passes test (here ∷ offsets) offset is = by (test here) refl (found_passes test offsets offset) where
  by : (b : Bool) → test here ≡ b → (find test offsets ≡ Some offset → test offset ≡ true) → test offset ≡ true
  by true e behind =
      let same : offset ≡ here = cc in
      ap test same ∙ e
  by false e behind = behind (rw e at is)

module _ (loaded more image : List ℕ) (is : image ≡ loaded ++ more) where
  -- loaded bytes that reach as far as is read have the same first valid offset as the image, and as many are read
  abbrev AreSame : List ℕ → Type 0
  AreSame offsets = (find (is_valid image) offsets ≡ find (is_valid loaded) offsets)
      × (furthest (is_valid image) (probe_end image) offsets ≡ furthest (is_valid loaded) (probe_end loaded) offsets)

  pub walk_same : (offsets : List ℕ) → furthest (is_valid loaded) (probe_end loaded) offsets ≤ length loaded
      → AreSame offsets
  unfolding furthest
  walk_same [] within = (refl, refl)
  walk_same (offset ∷ offsets) within = by (is_valid loaded offset) refl (walk_same offsets) where
    first : probe_end loaded offset ≤ length loaded
    first = omega (arith, within)

    valid : is_valid image offset ≡ is_valid loaded offset
    valid = valid_more loaded more image is offset first

    probe : probe_end image offset ≡ probe_end loaded offset
    probe = probe_more loaded more image is offset (omega (arith, probe_least loaded offset, first))

    by : (b : Bool) → is_valid loaded offset ≡ b
        → (furthest (is_valid loaded) (probe_end loaded) offsets ≤ length loaded → AreSame offsets)
        → AreSame (offset ∷ offsets)
    by true e next = (rw (valid, e) refl, rw (valid, probe, e) refl)
    by false e next =
        let rest = next (let inside = (rw e at within) in omega (arith, inside)) in
        (rw (valid, e) rest.0, rw (valid, probe, e) (ap (max (probe_end loaded offset)) rest.1))
