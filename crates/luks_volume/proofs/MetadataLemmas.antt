-- The key slots by their numbers: each is stored under its number and is listed by the digest, and its area is after
-- the headers. No number of the metadata is a fraction, and it does not nest deeply: its text can be written and read.
use Rattle.std.proofs.Common.{◌≡◌, ◌≢◌, ◌∙◌, ◌<◌, ◌≤◌, ◌*◌, ◌^◌, ℕ, zero, suc, Bool, true, List, [], ◌∷◌, ◌++◌, Some}
use Rattle.std.proofs.Common.{inl, inr, length, ap, arith, refl, Contains, decimal, slice_index_or, false, Less, Equal}
use Rattle.std.proofs.Common.{Greater, nat_cmp, Result, Ok, Err, Vec, Global, IfOk, IsUtf8, sym, subst, ◌+◌}
use Rattle.std.proofs.lemmas.Bool.{cases_lt, or_left, or_right, or_parts, and_parts}
use Rattle.std.proofs.lemmas.Fmt.{decimal_injective}
use Rattle.std.proofs.lemmas.List.Elements.{Contains-append_left, Contains-push}
use Rattle.std.proofs.lemmas.Slice.Eq.{bytes_eq-Decides}
use Rattle.serde_json.proofs.Views.{get_member-put, get_member-put_other}
use Rattle.serde_json.specs.Data.{Data, put, string, Members, depth, items_depth, member, no_members, object}
use Rattle.serde_json.specs.Find.{as_str, get_member}
use Rattle.std.specs.Prelude.{is_some}
use Rattle.serde_json.specs.View.{items_of}
use Rattle.std.specs.List.{list_all, list_any}
use Rattle.luks2_json.specs.List.{is_the_string, items_listed}
use Rattle.luks_volume.specs.Layout2.{decimal_value, keyslot_object, keyslots_below, names_below, ReadsBack, af_object}
use Rattle.luks_volume.specs.Layout2.{area_object, config_object, digest_object, json_of, kdf_object, metadata_of}
use Rattle.luks_volume.specs.Layout2.{segment_object, size_value}
use Rattle.luks_volume.specs.Ranges2.{area_start, slot_numbered, area_size_at, Seal2, Slot2}
use Rattle.std.specs.Cmp.Lexicographic.{slice_cmp}
use Rattle.std.specs.Ordering.{match_ordering}
use Rattle.serde_json.specs.Read.{read}
use Rattle.serde_json.specs.Written.{has_float, items_have_float, members_have_float}
use Rattle.luks_volume.proofs.SlotLemmas.{map_or_has}

-- ---- names

-- some item of an array passes a test if item k does
any_passes : (test : Data → Bool) (ds : List Data) (d : Data) (k : ℕ) → k < length ds → slice_index_or ds k d ≡ d
    → test d ≡ true → list_any test (items_listed (items_of ds)) ≡ true
any_passes test [] d k low is passes = absurd (omega arith)
any_passes test (e ∷ ds) d zero low is passes =
    or_left (test e) (list_any test (items_listed (items_of ds))) (ap test is ∙ passes)
any_passes test (e ∷ ds) d (suc k) low is passes =
    or_right (test e) (list_any test (items_listed (items_of ds))) (any_passes test ds d k (omega arith) is passes)

module _ (p : Seal2) where
  -- ---- a slot under its name

  pub keyslot_found : (n m : ℕ) (slot : Slot2) → slot_numbered n p.slots.now ≡ Some slot → n < m → m < 2 ^ 64
      → get_member (decimal n) (keyslots_below p m) ≡ Some (keyslot_object p slot)
  unfolding keyslots_below
  keyslot_found n zero slot is below few = absurd (omega arith)
  keyslot_found n (suc m) slot is below few = elim (cases_lt n m) [
    | inl earlier ↦
        let before = keyslot_found n m slot is earlier (omega arith) in
        let differ : decimal n ≢ decimal m =
        λ same. (let equal = decimal_injective n m (omega arith) (omega arith) same in omega (arith, equal, earlier)) in
        map_or_has (λ (ms : Members). get_member (decimal n) ms ≡ Some (keyslot_object p slot))
        (λ (other : Slot2). put (decimal m) (keyslot_object p other) (keyslots_below p m)) (keyslots_below p m)
        (slot_numbered m p.slots.now) before
        (λ other. get_member-put_other (decimal n) (decimal m) (keyslot_object p other) (keyslots_below p m) differ
        ∙ before)
    | inr last ↦
        let same : n ≡ m = omega arith in
        rw (← same, is) (get_member-put (decimal n) (keyslot_object p slot) (keyslots_below p n))
  ]

  -- ---- a slot in the digest's list

  listed : (n m : ℕ) (slot : Slot2) → slot_numbered n p.slots.now ≡ Some slot → n < m
      → Contains (names_below p m) (decimal_value n)
  unfolding names_below
  listed n zero slot is below = absurd (omega arith)
  listed n (suc m) slot is below = elim (cases_lt n m) [
    | inl earlier ↦
        let before = listed n m slot is earlier in
        map_or_has (λ (names : List Data). Contains names (decimal_value n))
        (λ (other : Slot2). names_below p m ++ decimal_value m ∷ []) (names_below p m) (slot_numbered m p.slots.now)
        before (λ other. Contains-append_left (names_below p m) (decimal_value m ∷ []) (decimal_value n) before)
    | inr last ↦
        let same : n ≡ m = omega arith in
        rw (← same, is) (Contains-push (names_below p n) (decimal_value n))
  ]

  pub slot_listed : (n m : ℕ) (slot : Slot2) → slot_numbered n p.slots.now ≡ Some slot → n < m
      → list_any (is_the_string (decimal n)) (items_listed (items_of (names_below p m))) ≡ true
  slot_listed n m slot is below =
      let found = listed n m slot is below in
      any_passes (is_the_string (decimal n)) (names_below p m) (decimal_value n) found.0 found.1 found.2
      ((bytes_eq-Decides (decimal n) (decimal n)).1 refl)

  -- ---- where a slot's area is

  -- no area starts before the end of the headers
  pub area_after_headers : (n : ℕ) → 2 * p.hdr_size ≤ area_start p n
  unfolding area_start
  area_after_headers zero = omega arith
  area_after_headers (suc n) = omega (arith, area_after_headers n)

  -- an area ends where one with a higher number starts, or before
  pub area_before : (n m : ℕ) → n < m → area_start p n + area_size_at p n ≤ area_start p m
  unfolding area_start
  area_before n zero low = absurd (omega arith)
  area_before n (suc m) low = elim (cases_lt n m) [
    | inl inside ↦ omega (arith, area_before n m inside)
    | inr last ↦
        let e : n ≡ m = omega arith in
        omega (arith, ap (λ i. area_start p i + area_size_at p i) e)
  ]

-- ---- no fractions, and no deep nesting

-- the value has no fraction and is nested at most n deep
pub record IsFlat (n : ℕ) (d : Data) : Type 0 where
  pub whole : has_float d ≡ false
  pub flat : depth d ≤ n

-- the value is a string
abbrev pub is_string : Data → Bool
is_string value = is_some (as_str value)

-- what is known of an array's items if all of them are strings
pub record AreStrings (ds : List Data) : Type 0 where
  pub strings : list_all is_string (items_listed (items_of ds)) ≡ true
  pub whole : items_have_float (items_of ds) ≡ false
  pub flat : items_depth (items_of ds) ≤ 0

strings_push : (ds : List Data) (text : List ℕ) → AreStrings ds → AreStrings (ds ++ string text ∷ [])
strings_push [] text are = record { strings = refl; whole = refl; flat = omega arith }
strings_push (d ∷ ds) text are =
    let strings = and_parts (is_string d) (list_all is_string (items_listed (items_of ds))) are.strings in
    let whole = or_parts (has_float d) (items_have_float (items_of ds)) are.whole in
    let before : AreStrings ds = record { strings = strings.1; whole = whole.1; flat = omega (arith, are.flat) } in
    let later = strings_push ds text before in
    record {
      strings = rw (strings.0) (later.strings);
      whole = rw (whole.0) (later.whole);
      flat = omega (arith, are.flat, later.flat);
    }

-- the numbers of the key slots are listed as strings
pub names_are : (p : Seal2) (n : ℕ) → AreStrings (names_below p n)
unfolding names_below
names_are p zero = record { strings = refl; whole = refl; flat = omega arith }
names_are p (suc n) =
    let before = names_are p n in
    map_or_has AreStrings (λ (slot : Slot2). names_below p n ++ decimal_value n ∷ []) (names_below p n)
    (slot_numbered n p.slots.now) before (λ slot. strings_push (names_below p n) (decimal n) before)

-- one more member
put_flat : (k : List ℕ) (d : Data) (ms : Members) (n : ℕ) → IsFlat n d → IsFlat (suc n) (object ms)
    → IsFlat (suc n) (object (put k d ms))
put_flat k d no_members n of_d of_ms = record { whole = rw (of_d.whole) refl; flat = omega (arith, of_d.flat) }
put_flat k d (member l e ms) n of_d of_ms =
    let parts = or_parts (has_float e) (members_have_float ms) of_ms.whole in
    let rest : IsFlat (suc n) (object ms) = record { whole = parts.1; flat = omega (arith, of_ms.flat) } in
    let later = put_flat k d ms n of_d rest in
    elim (slice_cmp nat_cmp k l) as (λ o. IsFlat (suc n)
    (object (match_ordering o (member k d (member l e ms)) (member l d ms) (member l e (put k d ms))))) [
      | Less ↦ record { whole = rw (of_d.whole) (of_ms.whole); flat = omega (arith, of_d.flat, of_ms.flat) }
      | Equal ↦ record { whole = rw (of_d.whole) (parts.1); flat = omega (arith, of_d.flat, of_ms.flat) }
      | Greater ↦ record { whole = rw (parts.0) (later.whole); flat = omega (arith, of_ms.flat, later.flat) }
    ]

keyslots_flat : (p : Seal2) (n : ℕ) → IsFlat 3 (object (keyslots_below p n))
unfolding keyslots_below keyslot_object af_object area_object kdf_object
keyslots_flat p zero = record { whole = refl; flat = omega arith }
keyslots_flat p (suc n) =
    let ms = keyslots_below p n in
    let before = keyslots_flat p n in
    map_or_has (λ (some : Members). IsFlat 3 (object some))
    (λ (slot : Slot2). put (decimal n) (keyslot_object p slot) ms) ms
    (slot_numbered n p.slots.now) before
    (λ slot.
    put_flat (decimal n) (keyslot_object p slot) ms 2 (record { whole = refl; flat = omega arith }) before)

size_flat : (fixed : Bool) (len : ℕ) → IsFlat 0 (size_value fixed len)
size_flat true len = record { whole = refl; flat = omega arith }
size_flat false len = record { whole = refl; flat = omega arith }

pub metadata_flat : (p : Seal2) → IsFlat 127 (metadata_of p)
unfolding metadata_of config_object digest_object segment_object
metadata_flat p =
    let names = names_are p 32 in
    let keyslots = keyslots_flat p 32 in
    let size = size_flat p.fixed (length p.plain.now) in
    record {
      whole = rw (names.whole, keyslots.whole, size.whole) refl;
      flat = omega (arith, names.flat, keyslots.flat, size.flat);
    }

-- the text that is written from the metadata is read back
pub text_read : {E : Type 0} (p : Seal2) (text : Result (Vec ℕ Global) E) → IfOk text (λ t. t.items ≡ json_of p)
    → IfOk text (λ t. IsUtf8 t.items) → IfOk text (λ t. read t.items ≡ Some (metadata_of p))
    → IfOk text (λ t. ReadsBack p)
text_read p (Ok t) is utf8 back = (subst IsUtf8 is utf8, ap read (sym is) ∙ back)
text_read p (Err e) is utf8 back = tt
