-- The search for the first valid LUKS2 header: what it has checked need not be checked again when more bytes are
-- loaded.
use Rattle.std.proofs.Common.{rules}
use Rattle.std.proofs.lemmas.Grind.{common_steps}
use Rattle.std.proofs.Common.{◌≡◌, ◌∙◌, ℕ, ◌+◌, ◌<◌, ◌≤◌, ◌==◌, List, [], ◌∷◌, ◌++◌, Some, None, Bool, true}
use Rattle.std.proofs.Common.{false, add-one, ap, arith, drop, drop-cons, get_or, length, max, refl, sym, take}
use Rattle.std.proofs.lemmas.List.{take-append-drop, take_all, take_more}
use Rattle.std.proofs.lemmas.List.Folds.{find-append}
use Rattle.std.specs.Prelude.{option_and_then, ◌*◌}
use Rattle.std.specs.List.{find}
use Rattle.std.proofs.lemmas.Bool.{ne_eqb}
use Rattle.luks_format.specs.Choice2.{chosen2_of, header2_at, is_valid, pair_finding_of, size_at}
use Rattle.luks_format.specs.Header2.{size_in}
use Rattle.luks_format.specs.ReadLen2.{IsNextEnd, probe2_len, probe_end}
use Rattle.luks_format.specs.ReadLen2.{furthest}
use Rattle.luks_format.specs.Search2.{IsSearchOf, checked, offsets, walk}
use Rattle.luks_format.specs.declared.binary_header2.HeaderRole.TheVariants.{Secondary}
use Rattle.luks_format.specs.declared.binary_header2.PairFinding.TheVariants.{PrimaryNotValid}
use Rattle.luks_format.specs.declared.header2_search.Search.{Search}
use Rattle.luks_format.specs.declared.header2_search.Search.TheVariants.{Found, Passed}
use Rattle.luks_format.proofs.Choice2Lemmas.{chosen_other, probe_primary, walk_is, walk_within}
use Rattle.luks_format.proofs.Valid2Lemmas.{at_more, found_passes, longer, probe_fit, probe_grows}
use Rattle.luks_format.proofs.Valid2Lemmas.{valid_more, valid_parts, valid_range, walk_same}

-- more bytes are loaded
pub search_more : (loaded more image : List ℕ) → image ≡ loaded ++ more → (search : Search)
    → IsSearchOf loaded search → IsSearchOf image search
search_more loaded more image is search before =
    let same = walk_same loaded more image is (checked search) before.whole in
    grind (arith, common_steps, longer)

-- the walk goes on behind offsets without a valid header
walk_on : (image passed left : List ℕ) → find (is_valid image) passed ≡ None
    → walk image (passed ++ left) ≡ max (walk image passed) (walk image left)
unfolding furthest
walk_on image [] left none = omega arith
walk_on image (offset ∷ passed) left none = by (is_valid image offset) refl (walk_on image passed left) where
  by : (b : Bool) → is_valid image offset ≡ b
      → (find (is_valid image) passed ≡ None → walk image (passed ++ left) ≡ max (walk image passed) (walk image left))
      → walk image (offset ∷ passed ++ left) ≡ max (walk image (offset ∷ passed)) (walk image left)
  by true e on = absurd (let wrong = rw e at none in cc)
  by false e on = rw e (omega (arith, on (rw e at none)))

module _ (loaded : List ℕ) (count : ℕ) (before : IsSearchOf loaded (Passed count)) where
  -- the walk over all offsets goes on over those that are left
  walk_left : walk loaded offsets ≡ max (walk loaded (take count offsets)) (walk loaded (drop count offsets))
  walk_left = cc (take-append-drop count offsets, walk_on loaded (take count offsets) (drop count offsets) before.first)

  -- the first valid header is at one of the offsets that are left
  pub first_left : find (is_valid loaded) (drop count offsets) ≡ find (is_valid loaded) offsets
  first_left =
      sym (sym (ap (find (is_valid loaded)) (take-append-drop count offsets))
      ∙ find-append {X = ℕ} (is_valid loaded) (take count offsets) (drop count offsets)
      ∙ rw before.first refl)

-- the primary header is not valid, and all bytes that are read are loaded
next_none : (loaded : List ℕ) → is_valid loaded 0 ≡ false → walk loaded offsets ≤ length loaded
    → IsNextEnd probe2_len loaded 0
next_none loaded other whole = grind (arith, common_steps, walk_is)

module _ (loaded : List ℕ) (count : ℕ) (before : IsSearchOf loaded (Passed count)) where
  -- no offset is left
  pub next_passed : length offsets ≤ count → IsNextEnd probe2_len loaded 0
  unfolding offsets
  next_passed all = search (rules, next_none, take_all)

  -- one more offset is checked
  module _ (offset : ℕ) (within : count < length offsets) (at : offset ≡ get_or offsets count 0) where
    up_to : take (count + 1) offsets ≡ take count offsets ++ offset ∷ []
    up_to = rw at (take_more offsets count 0 within)

    left : drop count offsets ≡ offset ∷ drop (count + 1) offsets
    left = rw (at, add-one count) (drop-cons offsets count 0 within)

    -- not all bytes that are read to check it are loaded
    pub next_more : length loaded < probe_end loaded offset → IsNextEnd probe2_len loaded (probe_end loaded offset)
    unfolding furthest
    next_more short = record {
      within = λ image more is.
          let now = search_more loaded more image is (Passed count) before in
          let far = rw left at (walk_left image count now) in
          omega (arith, far, walk_within image, probe_grows loaded more image is offset);
      enough = λ all. absurd (omega (arith, all, short));
    }

    module _ (whole : probe_end loaded offset ≤ length loaded) where
      pub search_passed : is_valid loaded offset ≡ false → IsSearchOf loaded (Passed (count + 1))
      unfolding furthest
      search_passed none = record {
        first = grind (arith, common_steps, up_to, find-append);
        whole = rw (up_to, walk_on loaded (take count offsets) (offset ∷ []) before.first, none)
            (omega (arith, before.whole, whole));
      }

      pub search_found : is_valid loaded offset ≡ true → IsSearchOf loaded (Found offset)
      unfolding furthest
      search_found here = record {
        first = sym (first_left loaded count before) ∙ rw (left, here) refl;
        whole =
            let far = rw (left, here) at (walk_left loaded count before) in
            omega (arith, far, before.whole, whole);
      }

-- the first valid header is the primary one if and only if that is valid
primary_found : (image : List ℕ) (offset : ℕ) → find (is_valid image) offsets ≡ Some offset
    → (offset == 0) ≡ is_valid image 0
unfolding offsets
primary_found image offset first = grind (arith, common_steps, found_passes, ne_eqb)

module _ (loaded : List ℕ) (offset : ℕ) (is : IsSearchOf loaded (Found offset)) where
  primary : (offset == 0) ≡ is_valid loaded 0
  primary = primary_found loaded offset is.first

  -- a valid header was found, and it is not the primary one
  pub next_found : 0 < offset → IsNextEnd probe2_len loaded 0
  next_found some = grind (arith, common_steps, next_none, primary, ne_eqb)

  -- the primary header is valid, so both are to be loaded
  pub next_both : offset ≤ 0 → IsNextEnd probe2_len loaded (2 * probe_end loaded 0)
  next_both first =
      let zero : offset ≡ 0 = omega (arith, first) in
      let valid = sym primary ∙ ap (λ n. n == 0) zero in
      let fit = valid_parts loaded 0 valid in
      let range = valid_range loaded 0 valid in
      let end : probe_end loaded 0 ≡ size_at loaded 0 = omega (arith, probe_fit loaded 0 fit.0, range.1) in
      record {
        within = λ image more is.
            let both = valid_more loaded more image is 0 (omega (arith, end, fit.1)) ∙ valid in
            let size = ap size_in (at_more loaded more image is 0 4096 (omega (arith, range.0))) in
            omega (arith, end, size, probe_primary image both);
        enough = λ all. omega (arith, all, end, probe_primary loaded valid);
      }

-- ---- the header that is chosen

-- no offset has a valid header
pub none_chosen : (image : List ℕ) → find (is_valid image) offsets ≡ None → None ≡ chosen2_of image
unfolding offsets
none_chosen image none = by (is_valid image 0) refl where
  by : (b : Bool) → is_valid image 0 ≡ b → None ≡ chosen2_of image
  by true e = absurd (let wrong : Some 0 ≡ None = rw e at none in cc)
  by false e = sym (chosen_other image e ∙ ap (option_and_then (header2_at image Secondary)) (rw e at none))

-- a valid header is at the first offset with one, and none before it
module _ (image : List ℕ) (offset : ℕ) (first : find (is_valid image) offsets ≡ Some offset) where
  pub first_is : is_valid image offset ≡ true
  first_is = found_passes (is_valid image) offsets offset first

  -- behind the image's start, the finding is that the primary header is not valid
  pub finding_is : (offset ≡ 0 → ⊥) → Some PrimaryNotValid ≡ pair_finding_of image
  unfolding offsets pair_finding_of
  finding_is behind = by (is_valid image 0) refl where
    by : (b : Bool) → is_valid image 0 ≡ b → Some PrimaryNotValid ≡ pair_finding_of image
    by true e = absurd (behind (let same : Some 0 ≡ Some offset = rw e at first in cc))
    by false e = rw e refl

  -- it is the header there
  pub later_chosen : (offset ≡ 0 → ⊥) → header2_at image Secondary offset ≡ chosen2_of image
  unfolding offsets
  later_chosen behind = by (is_valid image 0) refl where
    by : (b : Bool) → is_valid image 0 ≡ b → header2_at image Secondary offset ≡ chosen2_of image
    by true e = absurd (behind (let same : Some 0 ≡ Some offset = rw e at first in cc))
    by false e = sym (chosen_other image e ∙ ap (option_and_then (header2_at image Secondary)) (rw e at first))
