-- A search for headers in an image that is read once, from its start to its end.
use Rattle.std.specs.Prelude.{◌≡◌, ◌≤◌, ◌+◌, ◌*◌, ◌++◌, ℕ, Bool, true, false, List, [], ◌∷◌, Option, Some, None, Result}
use Rattle.std.specs.Prelude.{Ok, Err, drop}
use Rattle.luks_audit_run.specs.Places.{header_at, places_below, places_of}
use Rattle.luks_audit_run.specs.declared.place.SearchFault.{SearchFault}
use Rattle.luks_audit_run.specs.declared.place.SearchFault.TheVariants.{Read}
use Rattle.luks_audit_run.specs.declared.place.Place.{Place}
use Rattle.luks_audit_run.specs.declared.place.Step.{Step}
use Rattle.luks_audit_run.specs.declared.place.Step.TheVariants.{End, Skipped, Found}

-- a search: the number of the next sector to try, the loaded bytes from there on, and whether the image ends after them
pub record SearchModel : Type 0 where
  pub sector : ℕ
  pub bytes : List ℕ
  pub ended : Bool

-- the search is at its sector of this image: the loaded bytes are there, and those after them remain in the source
pub record IsIn (image : List ℕ) (search : SearchModel) (left : Option (List ℕ)) : Type 0 where
  pub rest : List ℕ
  pub left_is : left ≡ Some rest
  pub here : drop (512 * search.sector) image ≡ search.bytes ++ rest
  pub ends : search.ended ≡ true → rest ≡ []

-- when this sector of the image is the next to try, at most 32 MiB from there on were read: the bytes after them remain
-- in the source
pub record IsNear (image : List ℕ) (sector : ℕ) (left : Option (List ℕ)) : Type 0 where
  pub read : ℕ
  pub left_is : left ≡ Some (drop read image)
  pub near : read ≤ 512 * sector + 33554432

-- there is this header at a place, the only one from one sector up to another
abbrev pub FindsPlace : List ℕ → ℕ → ℕ → Place → Type 0
FindsPlace image from to place =
    (header_at image place.offset ≡ Ok place.header)
    × (places_below image to ≡ places_below image from ++ place.offset ∷ [])

-- there is no place from one sector up to another
abbrev pub FindsNone : List ℕ → ℕ → ℕ → Type 0
FindsNone image from to = places_below image to ≡ places_below image from

-- what a search found in an image, from one sector up to another: the next place and its header, or that there is no
-- further place; up to a fault there is none
abbrev pub FindsNext : List ℕ → ℕ → ℕ → Result (Option Place) SearchFault → Type 0
FindsNext image from to (Ok (Some place)) = FindsPlace image from to place
FindsNext image from to (Ok None) = places_of image ≡ places_below image from
FindsNext image from to (Err fault) = FindsNone image from to

-- what one step found
abbrev pub StepsOn : List ℕ → ℕ → ℕ → Result Step SearchFault → Type 0
StepsOn image from to (Ok (Found place)) = FindsPlace image from to place
StepsOn image from to (Ok Skipped) = FindsNone image from to
StepsOn image from to (Ok End) = places_of image ≡ places_below image from
StepsOn image from to (Err fault) = FindsNone image from to

abbrev pub IsEnd : Step → Type 0
IsEnd End = Unit {0}
IsEnd _ = ⊥

-- a failed read is reported
abbrev pub reports_failed_read : {T : Type 0} → Result T SearchFault → Bool
reports_failed_read (Err Read) = true
reports_failed_read _ = false
