-- The LUKS2 header of an image: which one is chosen, where it is, and how far the image is read for it.
use Rattle.std.proofs.lemmas.Grind.{common_steps}
use Rattle.std.proofs.Common.{◌≡◌, ◌∙◌, ℕ, ◌*◌, ◌≤◌, List, ◌++◌, Option, Some, None, Bool, true}
use Rattle.std.proofs.Common.{false, ap, sym, refl, length, max, arith}
use Rattle.std.specs.Prelude.{filter, map, nat_lt, option_and_then}
use Rattle.std.specs.List.{find}
use Rattle.std.proofs.lemmas.Option.{option_and_then_some}
use Rattle.luks_format.specs.Choice2.{binary_at, chosen2_of, header2_at, is_valid}
use Rattle.luks_format.specs.Choice2.{fits, pair_finding_of, size_at}
use Rattle.luks_format.specs.Header2.{sequence_in, size_in, sizes}
use Rattle.luks_format.specs.ReadLen2.{furthest, probe2_len, probe_end}
use Rattle.luks_format.specs.Search2.{offsets, walk}
use Rattle.luks_format.specs.Text2.{json_text_of, header_offset}
use Rattle.luks_format.specs.declared.binary_header2.Header2.{Header2}
use Rattle.luks_format.specs.declared.binary_header2.HeaderRole.{HeaderRole}
use Rattle.luks_format.specs.declared.binary_header2.HeaderRole.TheVariants.{Primary, Secondary}
use Rattle.luks_format.proofs.Valid2Lemmas.{at_more, found_passes, furthest_is, is_tried, max_of, own_size, probe_fit}
use Rattle.luks_format.proofs.Valid2Lemmas.{probe_least, probe_more, probe_unfit}
use Rattle.luks_format.proofs.Valid2Lemmas.{valid_more, valid_parts, valid_range, walk_same}

module _ (image : List ℕ) where
  pub probe_primary : is_valid image 0 ≡ true → probe2_len image ≡ 2 * size_at image 0
  unfolding probe2_len
  probe_primary is = rw is refl

  -- the choice for an image without a valid primary header
  pub chosen_other : is_valid image 0 ≡ false
      → chosen2_of image ≡ option_and_then (header2_at image Secondary) (find (is_valid image) sizes)
  unfolding chosen2_of
  chosen_other is = rw is refl

  pub probe_other : is_valid image 0 ≡ false
      → probe2_len image ≡ max (probe_end image 0) (furthest (is_valid image) (probe_end image) sizes)
  unfolding probe2_len
  probe_other is = rw is refl

  -- without a valid primary header, the image is read to the maximum over its start and the offsets that are tried
  pub probe2_len_is : is_valid image 0 ≡ false → probe2_len image ≡ max (probe_end image 0)
      (max_of (map (probe_end image) (filter (is_tried (is_valid image)) sizes)))
  probe2_len_is is = probe_other is ∙ ap (max (probe_end image 0)) (furthest_is (is_valid image) (probe_end image))

  -- the primary header is read in each case
  pub probe_first : probe_end image 0 ≤ probe2_len image
  probe_first = by (is_valid image 0) refl where
    by : (b : Bool) → is_valid image 0 ≡ b → probe_end image 0 ≤ probe2_len image
    by true e =
        let fit = valid_parts image 0 e in
        let range = valid_range image 0 e in
        omega (arith, probe_fit image 0 fit.0, probe_primary e, range.1)
    by false e = omega (arith, probe_other e)

  -- at least a binary header's length is read of an image
  pub probe_some : 4096 ≤ probe2_len image
  probe_some = omega (arith, probe_first, probe_least image 0)

  -- the search checks the offsets as far as is read of an image without a valid primary header, and no further
  pub walk_is : is_valid image 0 ≡ false → walk image offsets ≡ probe2_len image
  unfolding offsets furthest
  walk_is e = rw e (sym (probe_other e))

  pub walk_within : walk image offsets ≤ probe2_len image
  unfolding offsets furthest
  walk_within = grind (arith, common_steps, probe_first, walk_is)

-- ---- loading the image step by step

module _ (loaded more image : List ℕ) (is : image ≡ loaded ++ more) where
  first_valid : probe_end loaded 0 ≤ length loaded → is_valid image 0 ≡ is_valid loaded 0
  first_valid = valid_more loaded more image is 0

  choice_with_primary_same : is_valid image 0 ≡ true → is_valid loaded 0 ≡ true → 2 * size_at loaded 0 ≤ length loaded
      → chosen2_of image ≡ chosen2_of loaded
  unfolding chosen2_of header2_at pair_finding_of
  choice_with_primary_same valid_too valid whole =
      let range = valid_range loaded 0 valid in
      let size = size_at loaded 0 in
      let first = at_more loaded more image is 0 4096 (omega (arith, range.0)) in
      let second = at_more loaded more image is size 4096 (omega (arith, range.1, whole)) in
      let probe : probe_end loaded size ≤ length loaded =
      by_fit size (fits loaded size) refl (range.1, range.2) whole in
      rw (first, valid_too, valid, valid_more loaded more image is size probe, second) refl
    where
      by_fit : (size : ℕ) (fit : Bool) → fits loaded size ≡ fit → (16384 ≤ size) × (size ≤ 4194304)
          → 2 * size ≤ length loaded → probe_end loaded size ≤ length loaded
      by_fit size true fit range whole =
          let own = own_size loaded size fit (λ none. absurd (omega (arith, range, none))) in
          omega (arith, own, range, whole, probe_fit loaded size fit)
      by_fit size false fit range whole = omega (arith, range, whole, probe_unfit loaded size fit)

  found_same : is_valid image 0 ≡ false → is_valid loaded 0 ≡ false → (first : Option ℕ)
      → find (is_valid loaded) sizes ≡ first
      → option_and_then (header2_at image Secondary) first ≡ option_and_then (header2_at loaded Secondary) first
  unfolding header2_at pair_finding_of
  found_same none none_loaded None is_first = refl
  found_same none none_loaded (Some offset) is_first =
      let range = valid_range loaded offset (found_passes (is_valid loaded) sizes offset is_first) in
      rw (none, none_loaded, at_more loaded more image is offset 4096 range.0) refl

  -- if all bytes to be read are loaded, the image has the same header, and as many of its bytes are to be read
  pub decided2 : probe2_len loaded ≤ length loaded
      → (chosen2_of image ≡ chosen2_of loaded) × (probe2_len image ≡ probe2_len loaded)
  decided2 whole = by (is_valid loaded 0) refl where
    within : probe_end loaded 0 ≤ length loaded
    within = omega (arith, probe_first loaded, whole)

    by : (b : Bool) → is_valid loaded 0 ≡ b
        → (chosen2_of image ≡ chosen2_of loaded) × (probe2_len image ≡ probe2_len loaded)
    by true e =
        let size = ap size_in (at_more loaded more image is 0 4096 (omega (arith, within, probe_least loaded 0))) in (
          choice_with_primary_same (first_valid within ∙ e) e (omega (arith, probe_primary loaded e, whole)),
          probe_primary image (first_valid within ∙ e) ∙ ap (λ n. 2 * n) size ∙ sym (probe_primary loaded e),
        )
    by false e =
        let inside : furthest (is_valid loaded) (probe_end loaded) sizes ≤ length loaded =
        omega (arith, probe_other loaded e, whole) in
        let walk = walk_same loaded more image is sizes inside in
        let first = probe_more loaded more image is 0 (omega (arith, within, probe_least loaded 0)) in (
          chosen_other image (first_valid within ∙ e)
              ∙ ap (option_and_then (header2_at image Secondary)) walk.0
              ∙ found_same (first_valid within ∙ e) e (find (is_valid loaded) sizes) refl
              ∙ sym (chosen_other loaded e),
          probe_other image (first_valid within ∙ e)
              ∙ ap (max (probe_end image 0)) walk.1
              ∙ ap (λ n. max n (furthest (is_valid loaded) (probe_end loaded) sizes)) first
              ∙ sym (probe_other loaded e),
        )

-- ---- where the header and its JSON text are

-- a header that was made from bytes has this role, the length that they give, and is attached
made_of : (image : List ℕ) (role : HeaderRole) (offset : ℕ) (header : Header2)
    → header2_at image role offset ≡ Some header
    → (header.role ≡ role) × (header.size ≡ size_at image offset) × (header.detached ≡ false)
unfolding header2_at
made_of image role offset header is = grind (arith, common_steps)

-- a header is at this offset of the image, is valid there, and is attached
record HasHeaderAt (image : List ℕ) (header : Header2) (offset : ℕ) : Type 0 where
  pub valid : is_valid image offset ≡ true
  pub here : header_offset header.role header.size ≡ offset
  pub size : header.size ≡ size_at image offset
  pub attached : header.detached ≡ false

-- the sequence number of the header at an offset
abbrev sequence_at : List ℕ → ℕ → ℕ
sequence_at image offset = sequence_in (binary_at image offset)

module _ (image : List ℕ) (header : Header2) where
  -- a header that was made of the bytes at an offset is there, if its role and length give this offset
  header_at : (role : HeaderRole) (offset : ℕ) → is_valid image offset ≡ true
      → header_offset role (size_at image offset) ≡ offset
      → header2_at image role offset ≡ Some header → HasHeaderAt image header offset
  header_at role offset valid own is =
      let made = made_of image role offset header is in
      grind (arith, common_steps)

  -- the header of an image with a valid primary one is at an offset of the image
  choice_with_primary_at : is_valid image 0 ≡ true → chosen2_of image ≡ Some header
      → (offset : ℕ) × HasHeaderAt image header offset
  unfolding chosen2_of
  choice_with_primary_at valid is =
      by (is_valid image (size_at image 0)) (nat_lt (sequence_at image 0) (sequence_at image
      (size_at image 0))) refl refl
    where
      by : (both later : Bool) → is_valid image (size_at image 0) ≡ both
          → nat_lt (sequence_at image 0) (sequence_at image (size_at image 0)) ≡ later
          → (offset : ℕ) × HasHeaderAt image header offset
      by true true b l =
          let range = valid_range image 0 valid in
          let fit = valid_parts image (size_at image 0) b in
          let own = own_size image (size_at image 0) fit.0 (λ none. absurd (omega (arith, range.1, none))) in
          (size_at image 0, header_at Secondary (size_at image 0) b own (rw (valid, b, l) at is))
      by true false b l = (0, header_at Primary 0 valid refl (rw (valid, b, l) at is))
      by false _ b _ = (0, header_at Primary 0 valid refl (rw (valid, b) at is))

  -- the header that the search finds is at the offset where it was found
  search_result_at : is_valid image 0 ≡ false → (offset : ℕ) → find (is_valid image) sizes ≡ Some offset
      → header2_at image Secondary offset ≡ Some header → HasHeaderAt image header offset
  search_result_at none offset least is =
      let one = found_passes (is_valid image) sizes offset least in
      let some : offset ≡ 0 → ⊥ = grind (arith, common_steps) in
      let own = own_size image offset (valid_parts image offset one).0 some in
      header_at Secondary offset one own is

  -- the header that is chosen is at an offset of the image
  located : chosen2_of image ≡ Some header → (offset : ℕ) × HasHeaderAt image header offset
  located is = by (is_valid image 0) refl where
    by : (b : Bool) → is_valid image 0 ≡ b → (offset : ℕ) × HasHeaderAt image header offset
    by true e = choice_with_primary_at e is
    by false e =
        option_and_then_some (header2_at image Secondary) (find (is_valid image) sizes) header (sym
        (chosen_other image e) ∙ is)
        (λ offset least made. (offset, search_result_at e offset least made))

-- a header is read as an attached one
pub read_attached : (image : List ℕ) (header : Header2) → chosen2_of image ≡ Some header → header.detached ≡ false
read_attached image header is = (located image header is).1.attached

-- the JSON area of a header ends within the bytes that are read to choose it
pub text_more : (loaded more image : List ℕ) → image ≡ loaded ++ more → (header : Header2)
    → chosen2_of loaded ≡ Some header → json_text_of image header ≡ json_text_of loaded header
unfolding json_text_of
text_more loaded more image same header is =
    let it = located loaded header is in
    let range = valid_range loaded it.0 it.1.valid in
    let whole = valid_parts loaded it.0 it.1.valid in
    grind (arith, common_steps, at_more)
