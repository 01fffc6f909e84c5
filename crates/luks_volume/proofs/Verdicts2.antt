-- What a reader finds in the metadata of a sealed LUKS2 volume: a segment that is not refused, the digest of each key
-- slot, and each key slot with its parts, without a reason to skip it.
use Rattle.std.specs.Prelude.{◌&&◌, option_and_then}
use Rattle.std.proofs.Common.{◌≡◌, ◌∙◌, ◌*◌, ◌%◌, ◌<◌, ◌≤◌, ℕ, true, false, Some, None, Ok, length}
use Rattle.std.proofs.Common.{ap, arith, refl, sym, codes, ◌+◌, le-leb, lt-ltb}
use Rattle.std.proofs.lemmas.Bool.{eq-eqb, le-ltb}
use Rattle.luks_format.specs.SectorSize.{has_whole_sectors}
use Rattle.luks_format.specs.declared.segment.Segment.{Segment}
use Rattle.luks_format.proofs.MadeLemmas.{are_in_range, digest_from-yes, digest_of, is_usable, segment_by}
use Rattle.luks_format.proofs.MadeLemmas.{segment_from-yes, slot_from-yes, slot_of}
use Rattle.luks_format.proofs.SectorLemmas.{sector_size_again}
use Rattle.luks2_json.specs.Member.{decimal_member, string_is, string_member, integer_member, base64_member}
use Rattle.luks2_json.specs.Member.{hash_member, is_length_for}
use Rattle.luks2_json.specs.Member.{encryption_mode, in_member}
use Rattle.luks2_metadata.specs.Segment2.{fault2_of, has_requirement, has_segment_members, is_segment, size_is_wrong}
use Rattle.luks2_metadata.specs.Segment2.{mode2_of, sector_size_of}
use Rattle.luks2_metadata.specs.Segment2.{segment2_of, segment_of_members, size_member}
use Rattle.luks2_metadata.specs.Segment2.{offset_is_wrong, the_segment, payload2_start, payload_mode2_of}
use Rattle.luks2_metadata.specs.declared.bounds.Bounds.{Bounds}
use Rattle.luks2_metadata.proofs.SegmentLemmas.{segment2-none, segment2-ok}
use Rattle.luks2_metadata.proofs.SlotLemmas.{slot_there}
use Rattle.luks_volume.specs.Layout2.{config_object, metadata_of, segment_object, digest_object, af_object}
use Rattle.luks_volume.specs.Layout2.{area_object, kdf_object, keyslot_object}
use Rattle.luks_volume.specs.Ranges2.{AreParameters2, FitsSlot2, AreTyped2, IsTypedSlot2, slot_numbered, area_size}
use Rattle.luks_volume.specs.Ranges2.{area_start, area_size_at, Seal2, Slot2}
use Rattle.luks_volume.proofs.MetadataLemmas.{area_after_headers, names_are, slot_listed, keyslot_found, area_before}
use Rattle.luks_volume.proofs.TextLemmas.{fixed_size, decimal_read, mode_read, base64_read, size_read, whole_size}
use Rattle.std.proofs.lemmas.Fmt.{decimal_digit}
use Rattle.luks_kdf.specs.Hash.{digest_len}
use Rattle.luks_kdf.specs.Pbkdf2.{derived_key}
use Rattle.luks_kdf.proofs.Pbkdf2Lemmas.{digest_sizes, length-derived_key}
use Rattle.luks_format.specs.declared.digest.DigestParts.{DigestParts}
use Rattle.luks_format.specs.declared.digest.KeyDigest.{KeyDigest}
use Rattle.luks2_json.specs.List.{has_strings, array_contains}
use Rattle.luks2_json.specs.Numbered.{object_numbered}
use Rattle.luks2_json.proofs.NumberedLemmas.{lowest_found, lowest_none}
use Rattle.luks2_metadata.specs.Digest2.{digest2_for, digest2_of, is_digest2, is_of_slot}
use Rattle.luks2_metadata.specs.Digest2.{own_digest_at}
use Rattle.luks_volume.specs.Sealed.{IsDigestOf}
use Rattle.luks_volume.proofs.MaterialLemmas.{derived_bytes}
use Rattle.luks_volume.proofs.MaterialLemmas.{digest_fits, hash_is_named, area_fits, iterations_fit, stripes_fit}
use Rattle.luks_format.specs.Derivation.{derivation_refusal, without_argon2}
use Rattle.luks_format.specs.declared.derivation.Derivation.TheVariants.{Pbkdf2}
use Rattle.luks_format.specs.declared.slot.SlotParts.{SlotParts}
use Rattle.luks2_metadata.specs.Kdf2.{kdf2_of, variant_of}
use Rattle.luks_format.specs.Table.{first_match}
use Rattle.luks2_metadata.specs.Slot2.{form_reasons, has_members, is_af, is_area, is_kdf, is_pbkdf2, material_reasons}
use Rattle.luks2_metadata.specs.Slot2.{place_reasons, priority_of, reason2_of, slot_parts2_of, verdict2_at}
use Rattle.luks2_metadata.specs.Slot2.{verdict2_of}
use Rattle.luks_format.specs.Rule.{area_out_of_range, iterations_out_of_range, key_material_len, stripes_out_of_range}
use Rattle.luks_format.specs.Slot.{has_no_usable_digest}
use Rattle.luks_format.specs.declared.slot.Slot.{Slot}
use Rattle.luks_format.specs.declared.slot.Verdict.TheVariants.{Usable}

-- ---- the segment

-- the bounds that an attached header of this size sets
abbrev pub bounds_of : Seal2 → Bounds
bounds_of p = record { end = 2 * p.hdr_size; detached = false }

-- ---- the digest

-- the parts that the digest is made from
abbrev pub digest_parts : Seal2 → DigestParts
digest_parts p = record {
  hash = Some p.digest_hash;
  iterations = p.digest_iterations;
  salt = p.digest_salt;
  value = derived_key p.digest_hash p.key.now p.digest_salt p.digest_iterations (digest_len p.digest_hash);
}

-- ---- a key slot

-- a key slot of a volume
pub record IsUsed (p : Seal2) (slot : Slot2) : Type 0 where
  pub fits : FitsSlot2 (length p.key.now) slot
  pub typed : IsTypedSlot2 slot
  pub numbered : slot_numbered slot.number p.slots.now ≡ Some slot

-- the parts that the key slot is made from
abbrev pub parts_of : Seal2 → Slot2 → SlotParts
parts_of p slot = record {
  priority = slot.priority;
  derivation = Pbkdf2 (Some slot.hash) slot.iterations;
  salt = slot.salt;
  af_hash = Some slot.af_hash;
  stripes = slot.stripes;
  key_bytes = length p.key.now;
  area_key_bytes = p.area_key_size;
  area_offset = area_start p slot.number;
  area_size = area_size (length p.key.now) slot.stripes;
  area_mode = Some p.area_mode;
}

-- an area is large enough for its key material
pub material_fits : (key stripes : ℕ) → key_material_len key stripes ≤ area_size key stripes
unfolding key_material_len
material_fits key stripes = omega arith

module _ (p : Seal2) (fits : AreParameters2 p) (typed : AreTyped2 p) where
  -- ---- the segment: its members

  offset_is : decimal_member (codes "offset") (segment_object p) ≡ Some p.offset
  unfolding segment_object decimal_member string_member
  offset_is = decimal_read p.offset (omega (arith, fits.offset.1))

  size_is : size_member (segment_object p) ≡ Some (fixed_size p.fixed (length p.plain.now))
  unfolding size_member string_is segment_object decimal_member string_member
  size_is = size_read p.fixed (length p.plain.now) (omega (arith, fits.plain.1))

  iv_tweak_is : decimal_member (codes "iv_tweak") (segment_object p) ≡ Some p.iv_tweak
  unfolding segment_object decimal_member string_member
  iv_tweak_is = decimal_read p.iv_tweak typed.iv_tweak

  sector_size_is : sector_size_of (segment_object p) ≡ Some p.sector_size
  unfolding sector_size_of segment_object integer_member
  sector_size_is = sector_size_again p.sector_size

  mode_is : mode2_of (segment_object p) ≡ Some p.mode
  unfolding mode2_of segment_object string_member
  mode_is = mode_read p.mode

  pub whole : has_whole_sectors (fixed_size p.fixed (length p.plain.now)) p.sector_size ≡ true
  whole = whole_size p.fixed (length p.plain.now) p.sector_size fits.plain.0

  -- ---- the segment has no fault

  is_there : the_segment (metadata_of p) ≡ Some (segment_object p)
  unfolding the_segment metadata_of
  is_there = refl

  requires_none : has_requirement (metadata_of p) ≡ false
  unfolding has_requirement metadata_of config_object
  requires_none = refl

  starts_right : offset_is_wrong (bounds_of p) (Some p.offset) ≡ false
  unfolding offset_is_wrong
  starts_right =
      let behind : 2 * p.hdr_size ≤ p.offset = omega (arith, area_after_headers p 32, fits.offset.2) in
      rw (le-ltb p.offset (2 * p.hdr_size) behind, eq-eqb (p.offset % 512) 0 (omega (arith, fits.offset.0))) refl

  -- the segment
  unfoldable pub segment_is : Segment
  segment_is = segment_by p.offset (fixed_size p.fixed (length p.plain.now)) p.iv_tweak p.sector_size p.mode whole

  no_fault : fault2_of (metadata_of p) (bounds_of p) ≡ None
  unfolding fault2_of size_is_wrong is_segment has_segment_members segment_object string_is string_member integer_member
  no_fault =
      rw (requires_none, is_there, offset_is, size_is, iv_tweak_is, mode_is, sector_size_is, starts_right, whole) refl

  -- the segment that is read back is this one, which is not refused
  pub segment_read : segment2_of (metadata_of p) (bounds_of p) ≡ Ok segment_is
  unfolding segment_of_members segment_is
  segment_read =
      segment2-none (metadata_of p) (bounds_of p) segment_is no_fault
      (rw (is_there, offset_is, size_is, iv_tweak_is, sector_size_is, mode_is)
      (segment_from-yes p.offset (fixed_size p.fixed (length p.plain.now)) p.iv_tweak p.sector_size p.mode whole))

  -- ---- the digest: its members

  hash_is : hash_member (digest_object p) ≡ Some p.digest_hash
  unfolding hash_member digest_object string_member
  hash_is = (hash_is_named p.digest_hash).by_name

  digest_salt_is : base64_member (codes "salt") (digest_object p) ≡ Some p.digest_salt
  unfolding base64_member digest_object string_member
  digest_salt_is = base64_read p.digest_salt typed.digest_salt

  value_is : base64_member (codes "digest") (digest_object p) ≡ Some (digest_parts p).value
  unfolding base64_member digest_object string_member
  value_is =
      base64_read _
      (derived_bytes p.digest_hash p.key.now p.digest_salt p.digest_iterations (digest_len p.digest_hash))

  digest_object_is : is_digest2 (digest_object p) ≡ true
  unfolding is_digest2 has_strings digest_object string_is string_member integer_member
  digest_object_is = rw ((names_are p 32).strings, hash_is, digest_salt_is, value_is) refl

  -- ---- the digest of the key

  pub usable : is_usable (digest_parts p) ≡ true
  usable =
      let len = length-derived_key p.digest_hash p.key.now p.digest_salt p.digest_iterations
      (digest_len p.digest_hash) in
      let size = digest_sizes p.digest_hash in
      digest_fits p.digest_iterations _ fits.min_digest_iterations typed.digest_iterations
      (omega (arith, len, size.min_len)) (omega (arith, len, size.max_len))

  unfoldable pub digest_is : KeyDigest
  digest_is = digest_of (digest_parts p) usable

  digest_found : digest2_of (digest_object p) ≡ Some digest_is
  unfolding digest2_of digest_is digest_object integer_member
  digest_found =
      rw (digest_object_is, hash_is, digest_salt_is, value_is) (digest_from-yes (digest_parts p) usable)

  -- the digest is that of the key
  pub of_key : IsDigestOf digest_is p.key.now
  unfolding digest_is digest_of
  of_key = record {
    hash = p.digest_hash;
    is_hash = refl;
    value = ap (derived_key p.digest_hash p.key.now p.digest_salt p.digest_iterations)
        (sym (length-derived_key p.digest_hash p.key.now p.digest_salt p.digest_iterations (digest_len p.digest_hash)));
  }

  first_there : object_numbered (codes "digests") (metadata_of p) 0 ≡ Some (digest_object p)
  unfolding object_numbered metadata_of
  first_there = rw (decimal_digit 0 (omega arith)) refl

  module _ (slot : Slot2) (used : IsUsed p slot) where
    low : slot.number < 32
    low = omega (arith, used.fits.0)

    -- the digest belongs to the slot
    own_is : own_digest_at (metadata_of p) slot.number 0 ≡ Some digest_is
    unfolding own_digest_at is_of_slot array_contains digest_object
    own_is = rw (first_there, slot_listed p slot.number 32 slot used.numbered low, digest_found) refl

    digest_read : digest2_for (metadata_of p) slot.number ≡ Some digest_is
    unfolding digest2_for
    digest_read =
        lowest_found (own_digest_at (metadata_of p) slot.number) 0 32 (lowest_none _) (omega arith) (rw own_is refl)
        ∙ own_is

    -- its area ends before the payload
    ends_before : area_start p slot.number + area_size (length p.key.now) slot.stripes ≤ p.offset
    ends_before =
        let size : area_size_at p slot.number ≡ area_size (length p.key.now) slot.stripes = rw used.numbered refl in
        omega (arith, size, area_before p slot.number 32 low, fits.offset.2)

    -- ---- a key slot: its members

    area_offset_is : decimal_member (codes "offset") (area_object p slot) ≡ Some (area_start p slot.number)
    unfolding area_object decimal_member string_member
    area_offset_is = decimal_read (area_start p slot.number) (omega (arith, ends_before, fits.offset.1))

    area_size_is : decimal_member (codes "size") (area_object p slot) ≡ Some (area_size (length p.key.now) slot.stripes)
    unfolding area_object decimal_member string_member
    area_size_is =
        decimal_read (area_size (length p.key.now) slot.stripes) (omega (arith, ends_before, fits.offset.1))

    area_mode_is : option_and_then encryption_mode
        (in_member (codes "area") (string_member (codes "encryption")) (keyslot_object p slot)) ≡ Some p.area_mode
    unfolding keyslot_object area_object string_member
    area_mode_is = mode_read p.area_mode

    slot_salt_is : base64_member (codes "salt") (kdf_object slot) ≡ Some slot.salt
    unfolding kdf_object base64_member string_member
    slot_salt_is = base64_read slot.salt used.typed.salt

    af_hash_is : in_member (codes "af") hash_member (keyslot_object p slot) ≡ Some slot.af_hash
    unfolding keyslot_object af_object hash_member string_member
    af_hash_is = (hash_is_named slot.af_hash).by_name

    priority_is : priority_of (keyslot_object p slot) ≡ Some slot.priority
    unfolding keyslot_object priority_of integer_member
    priority_is = rw (le-leb slot.priority 2 used.fits.1) refl

    derivation_is : kdf2_of (keyslot_object p slot) ≡ Pbkdf2 (Some slot.hash) slot.iterations
    unfolding kdf2_of variant_of keyslot_object kdf_object string_is string_member integer_member hash_member
    derivation_is = ap (λ hash. Pbkdf2 hash slot.iterations) (hash_is_named slot.hash).by_name

    slot_parts_are : slot_parts2_of (keyslot_object p slot) ≡ parts_of p slot
    unfolding slot_parts2_of keyslot_object kdf_object area_object af_object integer_member
    slot_parts_are =
        rw (priority_is, derivation_is, slot_salt_is, af_hash_is, area_offset_is, area_size_is, area_mode_is) refl

    -- ---- a key slot: its types

    area_is : is_area (area_object p slot) ≡ true
    unfolding is_area area_object string_is string_member integer_member
    area_is = rw (area_offset_is, area_size_is) refl

    kdf_is : is_kdf (kdf_object slot) ≡ true
    unfolding is_kdf is_pbkdf2 kdf_object string_is string_member integer_member
    kdf_is = rw slot_salt_is refl

    members_ok : has_members (keyslot_object p slot) ≡ true
    unfolding has_members keyslot_object is_af af_object string_is string_member integer_member
    members_ok = rw (priority_is, area_is, kdf_is) refl

    -- ---- the values that the slot is checked against

    digest_ok : has_no_usable_digest None (digest2_for (metadata_of p) slot.number) ≡ false
    unfolding has_no_usable_digest digest_is digest_of
    digest_ok =
        rw digest_read (iterations_fit p.digest_iterations fits.min_digest_iterations typed.digest_iterations)

    -- ---- the reasons, one after the other

    keys_fit : (is_length_for (Some p.area_mode) p.area_key_size
        && is_length_for (payload_mode2_of (metadata_of p) (bounds_of p)) (length p.key.now)) ≡ true
    unfolding is_length_for segment_is segment_by
    keys_fit =
        let payload = segment2-ok (metadata_of p) (bounds_of p) segment_is segment_read in
        rw (payload.mode, fits.keys.0, fits.keys.1) refl

    stripes_ok : stripes_out_of_range slot.stripes ≡ false
    stripes_ok = stripes_fit slot.stripes used.fits.3 used.fits.4

    iterations_ok : iterations_out_of_range None slot.iterations ≡ false
    iterations_ok = iterations_fit slot.iterations used.fits.2 used.typed.iterations

    area_ok : area_out_of_range (2 * p.hdr_size) (payload2_start (metadata_of p) (bounds_of p))
        (area_start p slot.number) (area_size (length p.key.now) slot.stripes)
        (key_material_len (length p.key.now) slot.stripes) ≡ false
    unfolding segment_is segment_by
    area_ok =
        let payload = segment2-ok (metadata_of p) (bounds_of p) segment_is segment_read in
        let material_len = material_fits (length p.key.now) slot.stripes in
        rw (payload.start refl)
        (area_fits (2 * p.hdr_size) p.offset (area_start p slot.number) (area_size (length p.key.now) slot.stripes)
        (key_material_len (length p.key.now) slot.stripes) (area_after_headers p slot.number) material_len
        (omega (arith, ends_before, material_len)) fits.offset.1)

    -- no reason to skip the slot holds
    form_ok : first_match (form_reasons (without_argon2 None) (keyslot_object p slot)) ≡ None
    unfolding form_reasons variant_of keyslot_object kdf_object string_is string_member
    form_ok = rw members_ok refl

    material_ok : first_match (material_reasons (payload_mode2_of (metadata_of p) (bounds_of p)) (parts_of p slot))
        ≡ None
    unfolding material_reasons
    material_ok = rw (keys_fit, stripes_ok) refl

    derivation_ok : derivation_refusal (without_argon2 None) (Pbkdf2 (Some slot.hash) slot.iterations) ≡ None
    unfolding derivation_refusal
    derivation_ok = rw iterations_ok refl

    place_ok : first_match (place_reasons (metadata_of p) (bounds_of p) None slot.number (parts_of p slot)) ≡ None
    unfolding place_reasons
    place_ok = rw (area_ok, digest_ok) refl

    no_reasons : reason2_of (metadata_of p) (bounds_of p) (without_argon2 None) slot.number (keyslot_object p slot)
        ≡ None
    unfolding reason2_of
    no_reasons = rw (slot_parts_are, form_ok, material_ok, derivation_ok, place_ok) refl

    parts_ok : are_in_range (slot_parts2_of (keyslot_object p slot)) ≡ true
    parts_ok =
        (slot_there (metadata_of p) (bounds_of p) (without_argon2 None) slot.number (keyslot_object p slot)
        no_reasons).2

    -- the slot, which has the stated parts and the digest of the key
    pub slot_is : Slot
    slot_is = slot_of (slot_parts2_of (keyslot_object p slot)) digest_is parts_ok

    pub slot_parts : slot_is.parts ≡ parts_of p slot
    unfolding slot_is slot_of
    slot_parts = slot_parts_are

    pub slot_digest : slot_is.digest ≡ digest_is
    unfolding slot_is slot_of
    slot_digest = refl

    there : object_numbered (codes "keyslots") (metadata_of p) slot.number ≡ Some (keyslot_object p slot)
    unfolding object_numbered metadata_of
    there = rw (lt-ltb slot.number 32 low) (keyslot_found p slot.number 32 slot used.numbered low (omega arith))

    -- the slot is usable
    pub slot_usable : verdict2_at (metadata_of p) (bounds_of p) (without_argon2 None) slot.number
        ≡ Some (Usable slot_is)
    unfolding verdict2_at verdict2_of slot_is
    slot_usable =
        rw (there, no_reasons, digest_read, slot_from-yes (slot_parts2_of (keyslot_object p slot)) digest_is parts_ok)
        refl
