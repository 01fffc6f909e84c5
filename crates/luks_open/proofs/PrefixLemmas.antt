-- The first bytes of an image decide how opening its volume ends.
use Rattle.std.proofs.Common.{◌≡◌, ◌∙◌, ℕ, inl, inr, List, Ok, Err, ap, refl}
use Rattle.std.proofs.Common.{sym, length, arith, ◌≤◌, Result, take}
use Rattle.std.proofs.Common.{length-take-le, take_all}
use Rattle.std.proofs.lemmas.Bool.{le-ltb, cases_lt}
use Rattle.luks_format.specs.Area.{max_loaded_len}
use Rattle.luks_header.specs.Header.{header_read_len, header_of}
use Rattle.luks_header.proofs.HorizonLemmas.{header_of_start}
use Rattle.luks_open.specs.Opening.{key_material_end}
use Rattle.luks_open.proofs.CallerLemmas.{key_material_end-within}
use Rattle.luks_open.proofs.LoadedLemmas.{opening_prefix}
use Rattle.luks_open.specs.declared.fault.VolumeFault.{VolumeFault}
use Rattle.luks_open.specs.declared.allowed.AllowedSlots.{AllowedSlots}
use Rattle.luks_open.specs.Location.{reader_for, as_detached}
use Rattle.luks_open.specs.declared.location.HeaderLocation.{HeaderLocation}
use Rattle.luks_open.specs.Volume.{volume_by, volume_in_header, volume_opening_by}
use Rattle.luks_open.specs.Volume.{Volume, opening_after, opening_found}
use Rattle.luks_open.specs.declared.location.HeaderLocation.TheVariants.{Attached, Detached}

-- ---- opening by the first bytes

module _ (location : HeaderLocation) (slots : AllowedSlots) (image pass : List ℕ) (n : ℕ) (far : max_loaded_len ≤ n)
    (more : n ≤ length image) where
  same_header : (header_of (take n image) ≡ header_of image) × (header_read_len (take n image) ≡ header_read_len image)
  same_header = header_of_start image n (omega arith) more

  after_prefix : (r : Result Volume VolumeFault)
      → opening_after (take n image) pass r ≡ opening_after image pass r
  unfolding opening_found
  after_prefix (Ok v) =
      let within = key_material_end-within v.order.entries in
      let long = length-take-le n image more in
      let all = le-ltb (length (take n image)) (key_material_end v.order.entries) (omega (arith, long)) in
      let whole = le-ltb (length image) (key_material_end v.order.entries) (omega arith) in
      rw (all, whole, same_header.1, opening_prefix v.order n image pass (omega arith)) refl
  after_prefix (Err fault) = rw same_header.1 refl

  reading_prefix : reader_for location (take n image) ≡ reader_for location image
  reading_prefix = by location where
    by : (location : HeaderLocation) → reader_for location (take n image) ≡ reader_for location image
    by Attached = same_header.0
    by Detached = ap as_detached same_header.0

  -- the first bytes of a longer image open in the same way as all of it
  longer_prefix : volume_opening_by (reader_for location) slots (take n image) pass
      ≡ volume_opening_by (reader_for location) slots image pass
  unfolding volume_opening_by volume_by
  longer_prefix =
      ap (λ r. opening_after (take n image) pass (volume_in_header slots r)) reading_prefix
      ∙ after_prefix (volume_in_header slots (reader_for location image))

-- the same for the first bytes of any image
volume_prefix : (location : HeaderLocation) (slots : AllowedSlots) (image pass : List ℕ)
    → volume_opening_by (reader_for location) slots (take max_loaded_len image) pass
    ≡ volume_opening_by (reader_for location) slots image pass
volume_prefix location slots image pass = elim (cases_lt max_loaded_len (length image)) [
  | inl more ↦ longer_prefix location slots image pass max_loaded_len (omega arith) (omega arith)
  | inr all ↦ ap (λ bytes. volume_opening_by (reader_for location) slots bytes pass) (take_all max_loaded_len image all)
]

-- images with the same first bytes open in the same way
pub opening_decided : (location : HeaderLocation) (slots : AllowedSlots) (a b pass : List ℕ)
    → take max_loaded_len a ≡ take max_loaded_len b
    → volume_opening_by (reader_for location) slots a pass ≡ volume_opening_by (reader_for location) slots b pass
opening_decided location slots a b pass same =
    sym (volume_prefix location slots a pass)
    ∙ ap (λ bytes. volume_opening_by (reader_for location) slots bytes pass) same
    ∙ volume_prefix location slots b pass

-- the first bytes of an image have its header
header_prefix : (image : List ℕ) → header_of (take max_loaded_len image) ≡ header_of image
header_prefix image = elim (cases_lt max_loaded_len (length image)) [
  | inl more ↦ (header_of_start image max_loaded_len (omega arith) (omega arith)).0
  | inr all ↦ ap header_of (take_all max_loaded_len image all)
]

-- images with the same first bytes have the same header, whether attached or detached
pub header_decided : (location : HeaderLocation) (a b : List ℕ) → take max_loaded_len a ≡ take max_loaded_len b
    → reader_for location a ≡ reader_for location b
header_decided Attached a b same = sym (header_prefix a) ∙ (ap header_of same ∙ header_prefix b)
header_decided Detached a b same = ap as_detached (sym (header_prefix a) ∙ (ap header_of same ∙ header_prefix b))
