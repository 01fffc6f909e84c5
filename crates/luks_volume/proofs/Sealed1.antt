-- The image of a volume of LUKS1 is a sealed volume of its key, its passphrases and its plaintext: a reader finds the
-- header, the segment and the digest in it, and can try each key slot.
use Rattle.std.proofs.Common.{◌≡◌, ◌∙◌, ℕ, ◌+◌, ◌*◌, true, false, length, Some, None, Ok, refl, ap, arith, le-ltb}
use Rattle.std.proofs.Common.{List, [], ◌∷◌, get_or, bytes_eq, option_map, sym}
use Rattle.luks_kdf.proofs.Pbkdf2Lemmas.{length-derived_key}
use Rattle.luks_format.specs.Rule.{key_material_len}
use Rattle.luks_format.specs.Slot.{digest_from, has_no_usable_digest, slot_from}
use Rattle.luks_format.specs.Table.{first_match}
use Rattle.luks_format.specs.declared.sector_size.SectorSize.TheVariants.{B512}
use Rattle.luks_format.specs.declared.slot.Verdict.TheVariants.{Usable}
use Rattle.luks_format.proofs.MadeLemmas.{are_in_range, digest_from-yes, digest_of, is_usable, no_usable_digest-yes}
use Rattle.luks_format.proofs.MadeLemmas.{segment_by, slot_from-yes, slot_of}
use Rattle.luks_format.specs.Segment1.{segment1_of, segment_faults1}
use Rattle.luks_format.specs.Slot1.{digest_parts1_of, hash1_of, area1_out_of_range, mode1_of}
use Rattle.luks_format.specs.Slot1.{payload1_start, slot_reasons1, slot1_of, slot_parts1_of, verdict1_of, verdict1_at}
use Rattle.luks_format.proofs.ValidationLemmas.{segment1-none, slot_there}
use Rattle.luks_volume.specs.Sealed.{IsDigestOf, GivesKey, Sealed, SealsKey, SealsPlain}
use Rattle.luks_volume.proofs.MaterialLemmas.{area_fits, digest_fits, hash_is_named, iterations_fit, mode_is_named}
use Rattle.luks_volume.proofs.MaterialLemmas.{stripes_fit, made_material, material_is_stored}
use Rattle.luks_volume.specs.Layout1.{area_sectors_of, area_key1_of, image1_of, material1_of}
use Rattle.luks_volume.specs.Ranges1.{AreParameters1, AreTyped1, passphrases1_of, Seal1, Slot1}
use Rattle.std.proofs.lemmas.List.Elements.{All-map}
use Rattle.luks_volume.proofs.FieldLemmas.{at_inside}
use Rattle.luks_format.specs.Header1.{is_luks1}
use Rattle.luks_header.specs.Header.{header_of}
use Rattle.luks_header.specs.HeaderSegment.{segment_of}
use Rattle.luks_format.specs.declared.derivation.Derivation.TheVariants.{Pbkdf2}
use Rattle.luks_header.specs.SlotVerdicts.{verdict_within}
use Rattle.luks_header.specs.declared.header.Header.TheVariants.{V1}
use Rattle.luks_volume.specs.Pieces.{sector_padded, stripes_of}
use Rattle.luks_volume.proofs.SlotLemmas.{found_by_number}
use Rattle.luks_volume.proofs.Layout1Lemmas.{IsUsed, ends_before, found_header, found_slot, header1_are, header1_read}
use Rattle.luks_volume.proofs.Layout1Lemmas.{header1_start_bytes, image1, material_there, random_stripes1, slot_read}
use Rattle.luks_volume.proofs.Layout1Lemmas.{whole_header}
use Rattle.luks_kdf.specs.Pbkdf2.{derived_key}
use Rattle.luks_format.specs.declared.segment.Segment.{Segment}

-- the segment of a volume
abbrev segment1 : Seal1 → Segment
segment1 p = segment_by (512 * p.payload_sectors) None 0 B512 p.mode refl

module _ (p : Seal1) (fits : AreParameters1 p) (typed : AreTyped1 p) where
  -- ---- the header

  begins : is_luks1 (image1_of p) ≡ true
  unfolding is_luks1
  begins =
      ap (λ (b : List ℕ). bytes_eq b (0x4c ∷ 0x55 ∷ 0x4b ∷ 0x53 ∷ 0xba ∷ 0xbe ∷ 0x00 ∷ 0x01 ∷ []))
      (at_inside 0 0 8 0 592 (image1_of p) (header1_start_bytes p) refl (omega arith) (whole_header p fits typed)
      ∙ (header1_are p fits typed).part_at 0)

  header_is : header_of (image1_of p) ≡ Ok (V1 (found_header p))
  unfolding header_of
  header_is =
      let long = (image1 p fits typed).len in
      let enough = le-ltb (length (image1_of p)) 592 (omega (arith, long, fits.counts.3)) in
      rw (begins, enough, whole_header p fits typed, header1_read p fits typed) refl

  mode1_is : mode1_of (found_header p) ≡ Some p.mode
  unfolding mode1_of
  mode1_is = (mode_is_named p.mode).by_name

  hash1_is : hash1_of (found_header p) ≡ Some p.hash
  unfolding hash1_of
  hash1_is = (hash_is_named p.hash).by_name

  -- ---- the segment

  no_fault : first_match (segment_faults1 (found_header p)) ≡ None
  unfolding segment_faults1
  no_fault =
      rw (mode1_is, hash1_is, fits.key, le-ltb (512 * p.payload_sectors) 592 (omega (arith, fits.counts.3))) refl

  segment1_is : segment1_of (found_header p) ≡ Ok (segment1 p)
  unfolding segment_by
  segment1_is = segment1-none (found_header p) (segment1 p) no_fault (rw mode1_is refl)

  -- ---- the digest

  digest_usable : is_usable (digest_parts1_of (found_header p)) ≡ true
  unfolding digest_parts1_of
  digest_usable =
      rw (length-derived_key p.hash p.key.now p.digest_salt p.digest_iterations 20)
      (digest_fits p.digest_iterations 20 fits.counts.2 typed.iterations (omega arith) (omega arith))

  digest1_of_key : IsDigestOf (digest_of (digest_parts1_of (found_header p)) digest_usable) p.key.now
  unfolding digest_of digest_parts1_of
  digest1_of_key = record {
    hash = p.hash;
    is_hash = hash1_is;
    value = ap (derived_key p.hash p.key.now p.digest_salt p.digest_iterations)
        (sym (length-derived_key p.hash p.key.now p.digest_salt p.digest_iterations 20));
  }

  digest_ok : has_no_usable_digest None (digest_from (digest_parts1_of (found_header p))) ≡ false
  unfolding digest_parts1_of
  digest_ok =
      no_usable_digest-yes None (digest_parts1_of (found_header p)) digest_usable
      ∙ iterations_fit p.digest_iterations fits.counts.2 typed.iterations

  -- ---- a key slot

  module _ (slot : Slot1) (used : IsUsed p slot) where
    area_ok : area1_out_of_range (found_header p) (found_slot p slot) ≡ false
    unfolding area1_out_of_range payload1_start
    area_ok =
        let material_len = key_material_len (length p.key.now) p.stripes in
        area_fits 592 (512 * p.payload_sectors) (512 * (8 + slot.number * area_sectors_of p)) material_len material_len
        (omega arith)
        (omega arith) (ends_before p fits typed slot used) (omega (arith, fits.counts.4))

    no_reason : first_match (slot_reasons1 (found_header p) None (found_slot p slot)) ≡ None
    unfolding slot_reasons1
    no_reason =
        let stripes_ok = stripes_fit p.stripes fits.counts.0 fits.counts.1 in
        let iterations_ok = iterations_fit slot.iterations used.fits.1 used.typed.iterations in
        rw (stripes_ok, iterations_ok, area_ok, digest_ok) refl

    parts_ok : are_in_range (slot_parts1_of (found_header p) (found_slot p slot)) ≡ true
    parts_ok = (slot_there (found_header p) None (found_slot p slot) no_reason).2

    slot1_is : slot1_of (found_header p) (found_slot p slot)
        ≡ Some (slot_of (slot_parts1_of (found_header p) (found_slot p slot))
        (digest_of (digest_parts1_of (found_header p)) digest_usable) parts_ok)
    unfolding slot1_of
    slot1_is =
        let parts = slot_parts1_of (found_header p) (found_slot p slot) in
        let digest_parts = digest_parts1_of (found_header p) in
        ap (slot_from parts) (digest_from-yes digest_parts digest_usable)
        ∙ slot_from-yes parts (digest_of digest_parts digest_usable) parts_ok

    verdict1_is : verdict1_of (found_header p) None (found_slot p slot)
        ≡ Usable (slot_of (slot_parts1_of (found_header p) (found_slot p slot))
        (digest_of (digest_parts1_of (found_header p)) digest_usable) parts_ok)
    unfolding verdict1_of
    verdict1_is = rw (no_reason, slot1_is) refl

    -- the slot gives the key
    gives1 : GivesKey (slot_parts1_of (found_header p) (found_slot p slot)) slot.passphrase.now p.key.now (image1_of p)
    unfolding slot_parts1_of material1_of area_key1_of
    gives1 =
        let random = random_stripes1 p fits typed slot used.fits in
        record {
          kdf = p.hash;
          iterations = slot.iterations;
          af = p.hash;
          mode = p.mode;
          is_kdf = ap (λ hash. Pbkdf2 hash slot.iterations) hash1_is;
          is_af = hash1_is;
          is_mode = mode1_is;
          key_bytes = refl;
          material = sector_padded (stripes_of p.hash p.key.now p.stripes slot.random.now);
          is_material = made_material p.hash (slot_parts1_of (found_header p) (found_slot p slot)) p.key.now
              slot.random.now random;
          is_stored = material_is_stored p.hash p.key.now p.stripes slot.random.now random (p.mode, area_key1_of p slot)
              (512 * (8 + slot.number * area_sectors_of p)) (image1_of p) typed.key used.typed.random
              (material_there p fits typed slot used);
        }

    seals_key1 : SealsKey (V1 (found_header p)) (image1_of p) p.key.now slot.number slot.passphrase.now
    unfolding verdict_within verdict1_at slot_of
    seals_key1 = record {
      slot = slot_of (slot_parts1_of (found_header p) (found_slot p slot))
          (digest_of (digest_parts1_of (found_header p)) digest_usable) parts_ok;
      usable = ap (option_map (verdict1_of (found_header p) None)) (slot_read p fits typed slot used)
          ∙ ap Some verdict1_is;
      gives = gives1;
      digest_of_key = digest1_of_key;
    }

  -- ---- the payload

  seals_plain1 : SealsPlain (segment1 p) (image1_of p) p.key.now p.plain.now
  unfolding segment_by
  seals_plain1 =
      let image = image1 p fits typed in
      record { is_stored = image.stored (512 * p.payload_sectors) (omega arith); ends = omega (arith, image.len) }

  -- ---- the volume

  pub sealed1 : Sealed (image1_of p) (passphrases1_of p) p.key.now p.plain.now
  unfolding segment_of
  sealed1 = record {
    header = V1 (found_header p);
    segment = segment1 p;
    is_header = header_is;
    is_segment = segment1_is;
    key_bytes = typed.key;
    slots = All-map (λ slot. SealsKey (V1 (found_header p)) (image1_of p) p.key.now slot.0 slot.1)
        (λ slot. (slot.number, slot.passphrase.now)) p.slots.now
        (λ k d below.
        seals_key1 (get_or p.slots.now k d) (record {
          fits = fits.slots k d below;
          typed = typed.slots k d below;
          found = found_by_number (λ (slot : Slot1). slot.number) p.slots.now fits.distinct k d below;
        }));
    payload = seals_plain1;
  }
