-- The first 8 MiB of an image decide which header it has.
use Rattle.std.proofs.Common.{◌≡◌, ℕ, ◌<◌, ◌≤◌, List, [], ◌∷◌, Bool, true, false, arith, length, append-nil, drop}
use Rattle.std.proofs.Common.{length-take-le, lit≤, max, refl, sym, take}
use Rattle.std.specs.Prelude.{if◌then◌else◌}
use Rattle.std.proofs.lemmas.List.{take-append-drop}
use Rattle.luks_format.specs.Header1.{is_luks1}
use Rattle.luks_format.specs.Choice2.{binary_at, fits, is_valid}
use Rattle.luks_format.specs.Header2.{sizes}
use Rattle.luks_format.specs.ReadLen2.{IsNextEnd, furthest, probe2_len, probe_end}
use Rattle.luks_format.proofs.Choice2Lemmas.{probe_other, probe_primary}
use Rattle.luks_format.proofs.Valid2Lemmas.{fits_parts, max_of, probe_fit, probe_unfit}
use Rattle.luks_format.proofs.Valid2Lemmas.{size_range, valid_range}
use Rattle.luks_header.specs.Header.{header_of, header_read_len, probe_len}
use Rattle.luks_header.proofs.KnownLemmas.{probe_is}
use Rattle.luks_header.proofs.LoadingLemmas.{decided}

-- ---- no more than 8 MiB are read

module _ (image : List ℕ) where
  probe_near : (offset : ℕ) → offset ≤ 4194304 → probe_end image offset ≤ 8388608
  probe_near offset near = by (fits image offset) refl where
    by : (fit : Bool) → fits image offset ≡ fit → probe_end image offset ≤ 8388608
    by true is =
        let size = size_range offset (binary_at image offset) (fits_parts image offset is).1 in
        omega (arith, probe_fit image offset is, size.1, near)
    by false is = omega (arith, probe_unfit image offset is, near)

  -- at some offsets within the first 4 MiB
  walk_near : (offsets : List ℕ) → max_of offsets ≤ 4194304
      → furthest (is_valid image) (probe_end image) offsets ≤ 8388608
  unfolding furthest
  walk_near [] near = omega arith
  walk_near (offset ∷ offsets) near = by (is_valid image offset) (walk_near offsets (omega arith)) where
    by : (valid : Bool) {rest : ℕ} → rest ≤ 8388608 → max (probe_end image offset) (if valid then 0 else rest) ≤ 8388608
    by true far = omega (arith, probe_near offset (omega arith))
    by false far = omega (arith, probe_near offset (omega arith), far)

  search_near : furthest (is_valid image) (probe_end image) sizes ≤ 8388608
  unfolding sizes
  search_near = walk_near sizes (lit≤ tt)

  all_near : probe2_len image ≤ 8388608
  all_near = by (is_valid image 0) refl where
    by : (b : Bool) → is_valid image 0 ≡ b → probe2_len image ≤ 8388608
    by true is = omega (arith, probe_primary image is, (valid_range image 0 is).2)
    by false is = omega (arith, probe_other image is, search_near, probe_near 0 (omega arith))

  probe_all_near : probe_len image ≤ 8388608
  unfolding probe_len
  probe_all_near = by (is_luks1 image) refl where
    by : (b : Bool) → is_luks1 image ≡ b → probe_len image ≤ 8388608
    by true is = rw is (omega arith)
    by false is = rw is all_near

-- no bytes after them are to be loaded next
pub next_near : (loaded : List ℕ) (end : ℕ) → IsNextEnd probe_len loaded end → length loaded < end → end ≤ 8388608
next_near loaded end need more =
    omega (arith, more, need.within loaded [] (sym (append-nil loaded)), probe_all_near loaded)

-- the first bytes of an image have the header of the whole image, and reading it consumes as many bytes
pub header_of_start : (image : List ℕ) (n : ℕ) → 8388608 ≤ n → n ≤ length image
    → (header_of (take n image) ≡ header_of image) × (header_read_len (take n image) ≡ header_read_len image)
header_of_start image n far more =
    let long = length-take-le n image more in
    let near = probe_all_near (take n image) in
    let same = decided (take n image) (drop n image) image (sym (take-append-drop n image))
    (omega (arith, long, near)) in
    (sym same.header, omega (arith, long, near, same.probe, (probe_is image).0, (probe_is (take n image)).0))
