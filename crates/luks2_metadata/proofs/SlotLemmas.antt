-- Properties of usable digests, and of a slot that there is no reason to skip.
use Rattle.std.proofs.lemmas.Grind.{common_steps}
use Rattle.std.proofs.Common.{◌≡◌, ◌∙◌, ℕ, ◌^◌, ◌<◌, ◌≤◌, ap, sym, subst, refl, Bool, true, false, List, [], length}
use Rattle.std.proofs.Common.{Option, Some, None, arith}
use Rattle.std.specs.Prelude.{◌&&◌, ◌||◌, not, codes, if◌then◌else◌, is_none, is_some, option_and_then}
use Rattle.std.specs.Prelude.{option_map, unwrap_or}
use Rattle.std.specs.Option.{option_or}
use Rattle.std.proofs.lemmas.Bool.Decides.{nat_tests}
use Rattle.std.proofs.lemmas.Bool.{and_parts, ltb-true, not-false, or_parts}
use Rattle.std.proofs.lemmas.Option.{none-some, same_Some}
use Rattle.luks_cipher.specs.declared.mode.Mode.{Mode}
use Rattle.luks_cipher.proofs.ModeLemmas.{max_mode_key}
use Rattle.luks_format.specs.Derivation.{argon2_refusal, derivation_refusal, has_known_hash, is_allowed, is_derivable}
use Rattle.luks_format.specs.Derivation.{lanes_out_of_range, memory_out_of_range, passes_out_of_range}
use Rattle.luks_format.specs.Rule.{exceeds, iterations_out_of_range, area_out_of_range}
use Rattle.luks_format.specs.Rule.{is_digest, key_material_len, stripes_out_of_range}
use Rattle.luks_format.specs.Derivation.{is_in_range}
use Rattle.luks_format.specs.Slot.{has_no_usable_digest, material_end}
use Rattle.luks_format.specs.Slot.{slot_from, verdict_kind_of}
use Rattle.luks_format.proofs.MadeLemmas.{are_in_range, digest_from-no, digest_from-yes, digest_of, digest_there}
use Rattle.luks_format.proofs.MadeLemmas.{is_usable, mapped, of_usable, slot_from-yes, slot_of, some_from_not_none}
use Rattle.luks_format.specs.declared.derivation.Derivation.{Derivation}
use Rattle.luks_format.specs.declared.derivation.Derivation.TheVariants.{Pbkdf2, Argon2}
use Rattle.luks_format.specs.declared.derivation.Limits.{Limits}
use Rattle.luks_format.specs.declared.digest.KeyDigest.{KeyDigest}
use Rattle.luks_format.specs.declared.refusal.SkipReason.{SkipReason}
use Rattle.luks_format.specs.declared.refusal.SkipReason.TheVariants.{Argon2Time, Argon2Cpus}
use Rattle.luks_format.specs.declared.refusal.SkipReason.TheVariants.{Argon2Memory}
use Rattle.luks_format.specs.declared.slot.Slot.{Slot}
use Rattle.luks_format.specs.declared.slot.SlotParts.{SlotParts}
use Rattle.luks_format.specs.declared.slot.Verdict.TheVariants.{Usable}
use Rattle.luks_format.specs.declared.slot.VerdictKind.TheVariants.{Usable as KindUsable}
use Rattle.luks_kdf.specs.declared.hash.Hash.{Hash}
use Rattle.luks_cipher.specs.Sector.{is_mode_key_length}
use Rattle.luks2_json.specs.Numbered.{object_numbered}
use Rattle.luks2_json.specs.Member.{base64_member, in_member, is_length_for}
use Rattle.luks_format.proofs.TableLemmas.{none_holds}
use Rattle.luks_format.specs.Table.{first_match}
use Rattle.luks2_metadata.specs.Digest2.{digest2_for, digest2_of, digest_parts2_of, is_digest2, iterations_of_digest}
use Rattle.luks2_metadata.specs.declared.bounds.Bounds.{Bounds}
use Rattle.luks2_metadata.specs.Segment2.{payload2_start, payload_mode2_of}
use Rattle.luks2_metadata.specs.Kdf2.{kdf2_of, is_argon2, variant_of}
use Rattle.luks2_metadata.specs.Slot2.{form_reasons, material_reasons, place_reasons, reason2_of, slot2_at, slot2_of}
use Rattle.luks2_metadata.specs.Slot2.{slot_parts2_of, verdict2_at, verdict2_of}
use Rattle.serde_json.specs.Data.{Data}

-- ---- usable digests

-- a digest that lacks a member, has one of a wrong type or names an unknown hash function is not usable
pub not_digest : (digest : Data) → is_digest2 digest ≡ false → digest2_of digest ≡ None
unfolding digest2_of
not_digest digest is = rw is refl

-- a digest whose numbers are out of range is not usable
pub out_of_range : (digest : Data) → is_digest2 digest ≡ true
    → is_usable (digest_parts2_of digest) ≡ false → digest2_of digest ≡ None
unfolding digest2_of
out_of_range digest is none = rw is (digest_from-no (digest_parts2_of digest) none)

-- iterations that do not fit into four bytes are out of range
pub too_many : (iterations len : ℕ) → 4294967295 < iterations → is_digest iterations len ≡ false
unfolding is_digest iterations_out_of_range
too_many iterations len many = grind (arith, nat_tests)

-- a digest whose numbers are in range is usable, and has the stated iterations
pub digest_in_range : (digest : Data) → is_digest2 digest ≡ true
    → is_usable (digest_parts2_of digest) ≡ true
    → option_map iterations_of_digest (digest2_of digest) ≡ Some (digest_parts2_of digest).iterations
unfolding digest2_of digest_of
digest_in_range digest is held = rw (is, digest_from-yes (digest_parts2_of digest) held) refl

-- the iterations of a digest are present exactly if the digest is
pub same_some : (o : Option KeyDigest) → is_some (option_map iterations_of_digest o) ≡ is_some o
same_some o = grind (arith, common_steps)

-- ---- numbers of a slot that are in range

key_length_few : (mode : Option Mode) (bytes : ℕ) → is_length_for mode bytes ≡ true → bytes ≤ 64
unfolding is_length_for
key_length_few mode bytes is = grind (arith, common_steps, max_mode_key)

pub key_sizes_few : (area_mode mode : Option Mode) (area_bytes bytes : ℕ)
    → (is_length_for area_mode area_bytes && is_length_for mode bytes) ≡ true → (area_bytes ≤ 64) × (bytes ≤ 64)
key_sizes_few area_mode mode area_bytes bytes is = grind (arith, common_steps, and_parts, key_length_few)

pub stripes_few : (stripes : ℕ) → stripes_out_of_range stripes ≡ false → stripes ≤ 4000
unfolding stripes_out_of_range
stripes_few stripes is = grind (arith, nat_tests)

-- if there is no reason not to derive a key in this way, the numbers are in range
pub derivable_if : (limits : Limits) (derivation : Derivation) → derivation_refusal limits derivation ≡ None
    → is_derivable derivation ≡ true
unfolding derivation_refusal is_derivable argon2_refusal iterations_out_of_range
derivable_if limits (Pbkdf2 hash iterations) none = grind (arith, common_steps)
derivable_if limits (Argon2 parameters) none =
    of_rows (passes_out_of_range parameters.passes) (lanes_out_of_range parameters.lanes)
    (memory_out_of_range parameters.memory_kib parameters.lanes) _ none
  where
    of_rows : (passes lanes memory : Bool) (limited : Option SkipReason)
        → (if passes then Some Argon2Time else if lanes then Some Argon2Cpus else if memory then Some Argon2Memory
        else limited) ≡ None → (not passes && not lanes && not memory) ≡ true
    of_rows true lanes memory limited h = absurd cc
    of_rows false true memory limited h = absurd cc
    of_rows false false true limited h = absurd cc
    of_rows false false false limited h = refl

-- if one of two options or the other is none, both are
none_of_both : {T : Type 0} (first second : Option T) → option_or first second ≡ None
    → (first ≡ None) × (second ≡ None)
none_of_both first second is = grind (arith, common_steps, none-some)

known_area : (mode : Option Mode) (bytes : ℕ) → is_none mode ≡ false → is_length_for mode bytes ≡ true
    → (known : Mode) × (mode ≡ Some known) × (is_mode_key_length known bytes ≡ true)
unfolding is_length_for
known_area mode bytes none is = grind (arith, common_steps)

-- ---- what follows if there is no reason to skip a slot

-- none of these reasons holds for a slot whose members have these values
pub record NoReason (tree : Data) (bounds : Bounds) (limits : Limits) (number : ℕ) (parts : SlotParts) : Type 0 where
  pub hash : (not (has_known_hash parts.derivation) || is_none parts.af_hash) ≡ false
  pub encryption : is_none parts.area_mode ≡ false
  pub key_size : not (is_length_for parts.area_mode parts.area_key_bytes
      && is_length_for (payload_mode2_of tree bounds) parts.key_bytes) ≡ false
  pub stripes : stripes_out_of_range parts.stripes ≡ false
  pub derivation : derivation_refusal limits parts.derivation ≡ None
  pub area : area_out_of_range bounds.end (payload2_start tree bounds) parts.area_offset parts.area_size
      (key_material_len parts.key_bytes parts.stripes) ≡ false
  pub digest : has_no_usable_digest limits.max_iterations (digest2_for tree number) ≡ false

-- a slot's stripes and the lengths of its keys fit into four bytes
pub record IsSmall (parts : SlotParts) : Type 0 where
  pub stripes : parts.stripes ≤ 4000
  pub key : parts.key_bytes ≤ 64
  pub area_key : parts.area_key_bytes ≤ 64

-- if there is no reason to skip a slot because of its material, its stripes and the lengths of its keys are small
pub material_small : (payload_mode : Option Mode) (parts : SlotParts)
    → first_match (material_reasons payload_mode parts) ≡ None → IsSmall parts
unfolding material_reasons
material_small payload_mode parts none = grind (arith, common_steps, none_holds, key_sizes_few, not-false, stripes_few)

-- a salt that Argon2 allows
abbrev pub IsSaltFor : Derivation → List ℕ → Type 0
IsSaltFor (Pbkdf2 hash iterations) salt = Unit {0}
IsSaltFor (Argon2 parameters) salt = length salt < 2 ^ 32

-- if there is no reason to skip a slot because of the function that derives its key, that function may be used
pub allowed : (limits : Limits) (slot : Data) → first_match (form_reasons limits slot) ≡ None
    → has_known_hash (kdf2_of slot) ≡ true → is_allowed limits (kdf2_of slot) ≡ true
unfolding form_reasons kdf2_of variant_of
allowed limits slot none known =
    let all = none_holds (form_reasons limits slot) none in
    grind (arith, common_steps)

-- and its salt is one that Argon2 allows, if it is Argon2
short_salt : (limits : Limits) (slot : Data) → first_match (form_reasons limits slot) ≡ None
    → IsSaltFor (kdf2_of slot) (unwrap_or (in_member (codes "kdf") (base64_member (codes "salt")) slot) [])
unfolding form_reasons kdf2_of is_argon2
short_salt limits slot none =
    let all = none_holds (form_reasons limits slot) none in
    grind (arith, common_steps, ltb-true, and_parts, not-false)

-- what is needed to open the slot agrees with the header and the limits: its key may be derived in its way, its hash
-- functions and its area's mode are known, its keys have valid lengths for their modes, its key material is before the
-- payload, and its digest is that of its number
pub record IsOf2 (tree : Data) (bounds : Bounds) (limits : Limits) (number : ℕ) (usable : Slot) : Type 0 where
  pub kdf : is_allowed limits usable.parts.derivation ≡ true
  pub salt : IsSaltFor usable.parts.derivation usable.parts.salt
  pub af : (hash : Hash) × (usable.parts.af_hash ≡ Some hash)
  pub area : (mode : Mode) × (usable.parts.area_mode ≡ Some mode)
      × (is_mode_key_length mode usable.parts.area_key_bytes ≡ true)
  pub volume_key : is_length_for (payload_mode2_of tree bounds) usable.parts.key_bytes ≡ true
  pub before_payload : exceeds (payload2_start tree bounds) (material_end usable.parts) ≡ false
  pub digest : digest2_for tree number ≡ Some usable.digest

module _ (tree : Data) (bounds : Bounds) (limits : Limits) (number : ℕ) (slot : Data) where
  -- the parts of the table of which none holds
  tables : reason2_of tree bounds limits number slot ≡ None
      → (first_match (form_reasons limits slot) ≡ None)
      × (first_match (material_reasons (payload_mode2_of tree bounds) (slot_parts2_of slot)) ≡ None)
      × (derivation_refusal limits (slot_parts2_of slot).derivation ≡ None)
      × (first_match (place_reasons tree bounds limits.max_iterations number (slot_parts2_of slot)) ≡ None)
  unfolding reason2_of
  tables none = grind (arith, common_steps, none_of_both)

  pub no_reason : reason2_of tree bounds limits number slot ≡ None
      → NoReason tree bounds limits number (slot_parts2_of slot)
  unfolding material_reasons place_reasons
  no_reason none =
      let all = tables none in
      let parts = slot_parts2_of slot in
      let material = none_holds (material_reasons (payload_mode2_of tree bounds) parts) all.1 in
      let place = none_holds (place_reasons tree bounds limits.max_iterations number parts) all.3 in
      record {
        hash = material.0;
        encryption = material.1.0;
        key_size = material.1.1.0;
        stripes = material.1.1.1.0;
        derivation = all.2;
        area = place.0;
        digest = place.1.0;
      }

  -- its numbers are in range
  pub range_of : NoReason tree bounds limits number (slot_parts2_of slot) → are_in_range (slot_parts2_of slot) ≡ true
  unfolding is_in_range stripes_out_of_range area_out_of_range
  range_of none = grind (arith, common_steps, derivable_if)

  -- what is needed to open it is present, with the digest
  pub slot_there : reason2_of tree bounds limits number slot ≡ None
      → (digest : KeyDigest) × (digest2_for tree number ≡ Some digest)
      × (is : are_in_range (slot_parts2_of slot) ≡ true)
      × (slot_from (slot_parts2_of slot) (digest2_for tree number) ≡ Some (slot_of (slot_parts2_of slot) digest is))
  slot_there none =
      let all = no_reason none in
      let there = digest_there limits.max_iterations (digest2_for tree number) all.digest in
      let is = range_of all in
      let made : slot_from (slot_parts2_of slot) (digest2_for tree number)
      ≡ Some (slot_of (slot_parts2_of slot) there.0 is) =
      ap (slot_from (slot_parts2_of slot)) there.1 ∙ slot_from-yes (slot_parts2_of slot) there.0 is in
      (there.0, there.1, is, made)

  -- the verdict on it, without what is needed to open it
  pub usable_verdict : reason2_of tree bounds limits number slot ≡ None
      → verdict_kind_of (verdict2_of tree bounds limits number slot) ≡ KindUsable (slot_parts2_of slot).priority
  unfolding verdict2_of slot_of
  usable_verdict none = grind (arith, common_steps, slot_there)

  pub small_of : reason2_of tree bounds limits number slot ≡ None → IsSmall (slot_parts2_of slot)
  small_of none = material_small (payload_mode2_of tree bounds) (slot_parts2_of slot) (tables none).1

  -- if the verdict is that the slot can be tried, this is what is needed to open it, and it agrees with the header
  usable_is : (usable : Slot) → verdict2_of tree bounds limits number slot ≡ Usable usable
      → IsOf2 tree bounds limits number usable
      × (slot_from (slot_parts2_of slot) (digest2_for tree number) ≡ Some usable)
      × (slot2_of tree bounds limits number slot ≡ Some usable)
  unfolding verdict2_of slot2_of slot_of area_out_of_range slot_parts2_of
  usable_is usable is =
      let parts = slot_parts2_of slot in
      let verdict = of_usable (reason2_of tree bounds limits number slot)
      (slot_from parts (digest2_for tree number)) usable is in
      let no = no_reason verdict.0 in
      let form = (tables verdict.0).0 in
      let there = slot_there verdict.0 in
      let same : usable ≡ slot_of parts there.0 there.2 = same_Some _ _ (sym verdict.1 ∙ there.3) in
      let hashes = or_parts _ _ no.hash in
      let sizes = and_parts _ _ (not-false _ no.key_size) in
      let past = or_parts _ _ no.area in
      let before = or_parts _ _ past.0 in
      let known : IsOf2 tree bounds limits number (slot_of parts there.0 there.2) = record {
        kdf = allowed limits slot form (not-false _ hashes.0);
        salt = short_salt limits slot form;
        af = some_from_not_none parts.af_hash hashes.1;
        area = known_area parts.area_mode parts.area_key_bytes no.encryption sizes.0;
        volume_key = sizes.1;
        before_payload = before.1;
        digest = there.1;
      } in
      (subst (IsOf2 tree bounds limits number) (sym same) known, verdict.1, rw verdict.0 verdict.1)

-- the same for the slot with a number
pub usable2_at : (tree : Data) (bounds : Bounds) (limits : Limits) (number : ℕ) (usable : Slot)
    → verdict2_at tree bounds limits number ≡ Some (Usable usable)
    → IsOf2 tree bounds limits number usable × (slot2_at tree bounds limits number ≡ Some usable)
unfolding verdict2_at slot2_at
usable2_at tree bounds limits number usable is =
    let slot = mapped (verdict2_of tree bounds limits number) (object_numbered (codes "keyslots") tree number)
    (Usable usable) is in
    let known = usable_is tree bounds limits number slot.0 usable slot.2 in
    (known.0, ap (option_and_then (slot2_of tree bounds limits number)) slot.1 ∙ known.2)

-- what is needed to open a slot that can be tried is made from its parts and its digest, whatever the limits are
made2_at : (tree : Data) (bounds : Bounds) (limits : Limits) (number : ℕ) (usable : Slot)
    → verdict2_at tree bounds limits number ≡ Some (Usable usable)
    → option_and_then (λ slot. slot_from (slot_parts2_of slot) (digest2_for tree number))
    (object_numbered (codes "keyslots") tree number) ≡ Some usable
unfolding verdict2_at
made2_at tree bounds limits number usable is =
    let slot = mapped (verdict2_of tree bounds limits number) (object_numbered (codes "keyslots") tree number)
    (Usable usable) is in
    let known = usable_is tree bounds limits number slot.0 usable slot.2 in
    ap (option_and_then (λ slot. slot_from (slot_parts2_of slot) (digest2_for tree number))) slot.1 ∙ known.1

pub same_slot2 : (tree : Data) (bounds : Bounds) (limits limits' : Limits) (number : ℕ) (usable usable' : Slot)
    → verdict2_at tree bounds limits number ≡ Some (Usable usable)
    → verdict2_at tree bounds limits' number ≡ Some (Usable usable') → usable ≡ usable'
same_slot2 tree bounds limits limits' number usable usable' is is' = grind (arith, common_steps, same_Some, made2_at)
