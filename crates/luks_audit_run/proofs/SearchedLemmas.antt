-- The lines of a search, place by place.
use Rattle.std.proofs.lemmas.Grind.{common_steps}
use Rattle.std.proofs.Common.{arith}
use Rattle.std.proofs.Common.{◌≡◌, ◌∙◌, ℕ, List, [], ◌∷◌, ◌++◌, Option, Some, None, Ok, refl, sym, ap}
use Rattle.std.proofs.Common.{false}
use Rattle.std.proofs.lemmas.List.{append-nil}
use Rattle.std.proofs.lemmas.Grind.{flat_map-append}
use Rattle.luks_format.specs.declared.fault.HeaderFault.TheVariants.{NotLuks}
use Rattle.luks_audit.specs.Image.{fault_line, header_line, header_state}
use Rattle.luks_audit.specs.declared.image.Policy.{Policy}
use Rattle.luks_audit.specs.declared.image.State.{State}
use Rattle.luks_audit.specs.declared.image.State.TheVariants.{Clean}
use Rattle.luks_audit_run.specs.Places.{header_at, places_below, places_of}
use Rattle.luks_audit_run.specs.Search.{IsIn, SearchModel}
use Rattle.luks_audit_run.specs.Searched.{end_line, end_state, graver, graver_of, gravest_place}
use Rattle.luks_audit_run.specs.Searched.{place_line, lines_or_none, place_lines}
use Rattle.luks_audit_run.specs.Searched.{searched_lines, searched_state, shown_of, place_state, state_or_none}
use Rattle.luks_audit_run.specs.declared.place.Place.{Place}

pub graver_clean : (state : State) → graver state Clean ≡ state
graver_clean x0 = grind (arith, common_steps)

pub graver_assoc : (a b c : State) → graver a (graver b c) ≡ graver (graver a b) c
graver_assoc x0 b c = grind (arith, common_steps)

module _ (policy : Policy) (file image : List ℕ) where
  lines_none : place_lines policy file image [] ≡ []
  unfolding place_lines
  lines_none = refl

  -- one more place
  lines_more : (places : List ℕ) (offset : ℕ)
      → place_lines policy file image (places ++ offset ∷ [])
      ≡ place_lines policy file image places ++ place_line policy file offset (header_at image offset)
  unfolding place_lines
  lines_more places offset = grind (arith, common_steps, flat_map-append, append-nil)

  gravest_more : (places : List ℕ) (offset : ℕ)
      → gravest_place policy image (places ++ offset ∷ [])
      ≡ graver (gravest_place policy image places) (place_state policy (header_at image offset))
  unfolding gravest_place
  gravest_more [] offset = graver_clean (place_state policy (header_at image offset))
  gravest_more (first ∷ places) offset =
      ap (graver (place_state policy (header_at image first))) (gravest_more places offset)
      ∙ graver_assoc (place_state policy (header_at image first)) (gravest_place policy image places)
      (place_state policy (header_at image offset))

  shown_more : (places : List ℕ) (offset : ℕ)
      → shown_of policy image (places ++ offset ∷ [])
      ≡ Some (graver_of (shown_of policy image places) (place_state policy (header_at image offset)))
  unfolding gravest_place
  shown_more x0 offset = grind (arith, common_steps, graver_clean, gravest_more)

  -- the search has come so far
  pub record Told (search : SearchModel) (left : Option (List ℕ)) (text : List ℕ) (found : Option State) : Type 0 where
    pub is_in : IsIn image search left
    pub text_is : text ≡ place_lines policy file image (places_below image search.sector)
    pub found_is : found ≡ shown_of policy image (places_below image search.sector)

  places_none : places_below image 0 ≡ []
  unfolding places_below
  places_none = refl

  pub told_none : (left : Option (List ℕ)) → left ≡ Some image
      → Told (record { sector = 0; bytes = []; ended = false }) left [] None
  told_none left is = grind (arith, common_steps, places_none, lines_none)

  -- one more header was found
  pub told_more : (search search' : SearchModel) (left left' : Option (List ℕ)) (text : List ℕ) (found : Option State)
      (place : Place) → Told search left text found → IsIn image search' left'
      → header_at image place.offset ≡ Ok place.header
      → places_below image search'.sector ≡ places_below image search.sector ++ place.offset ∷ []
      → Told search' left' (text ++ header_line policy file place.offset place.header)
      (Some (graver_of found (header_state policy place.header)))
  told_more search search' left left' text found place told is_in header places = record {
    is_in = is_in;
    text_is = grind (arith, common_steps, lines_more);
    found_is = ap (λ before. Some (graver_of before (header_state policy place.header))) told.found_is
        ∙ ap (λ read. Some (graver_of (shown_of policy image (places_below image search.sector))
        (place_state policy read))) (sym header)
        ∙ sym (shown_more (places_below image search.sector) place.offset)
        ∙ ap (shown_of policy image) (sym places);
  }

  -- everything that is written, by what was found
  ends_by : (places text : List ℕ) (found : Option State) → text ≡ place_lines policy file image places
      → found ≡ shown_of policy image places
      → (text ++ end_line policy file found ≡ lines_or_none policy file image places)
      × (end_state found ≡ state_or_none policy image places)
  ends_by [] text None is found =
      (ap (λ (first : List ℕ). first ++ fault_line policy.format file NotLuks) (is ∙ lines_none), refl)
  ends_by [] text (Some some) is found = absurd cc
  ends_by (place ∷ places) text None is found = absurd cc
  ends_by (place ∷ places) text (Some some) is found = grind (arith, common_steps, append-nil)

  -- the search has ended
  pub told_all : (search : SearchModel) (left : Option (List ℕ)) (text : List ℕ) (found : Option State)
      → Told search left text found → places_of image ≡ places_below image search.sector
      → (text ++ end_line policy file found ≡ searched_lines policy file image)
      × (end_state found ≡ searched_state policy image)
  told_all search left text found told all = grind (arith, common_steps, ends_by)
