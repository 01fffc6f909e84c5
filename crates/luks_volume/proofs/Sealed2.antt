-- The image of a volume of LUKS2 is a sealed volume of its key, its passphrases and its plaintext: where its parts are
-- stored, the primary header that a reader finds, with the metadata, and the key slots, which it can try.
use Rattle.std.proofs.Common.{◌≡◌, ◌∙◌, ◌==◌, ℕ, zero, suc, ◌+◌, ◌-◌, ◌*◌, ◌/◌, ◌<◌, List, [], length, Some}
use Rattle.std.proofs.Common.{None, refl, sym, ap, arith, length-append, take_at, ◌≢◌, ◌≤◌, ◌++◌, replicate, Ok, true}
use Rattle.std.proofs.Common.{false, get_or, slice_index, Bool, subst, eq-eqb, le-ltb, ne_eqb, ◌∷◌, one-add}
use Rattle.std.specs.Option.{option_map_or}
use Rattle.luks_format.specs.Fields.{at, be64, text_of}
use Rattle.luks_kdf.specs.Bytes.{joined}
use Rattle.luks_format.proofs.SectorLemmas.{sector_blocks}
use Rattle.luks_format.specs.SectorSize.{bytes_of}
use Rattle.luks_volume.specs.Pieces.{encrypted_material, sector_padded, stripes_of, wrapping_number, padded}
use Rattle.luks_volume.proofs.SectorLemmas.{IsImage, image_made}
use Rattle.luks_volume.proofs.MaterialLemmas.{AreRandomStripes, length-material, made_material, material_is_stored}
use Rattle.luks_volume.proofs.FieldLemmas.{IsThere, at_second, length-padded, at_at}
use Rattle.luks_volume.proofs.SlotLemmas.{found_has, found_by_number}
use Rattle.luks_volume.specs.Layout2.{FitsJson, ReadsBack, area_at, area_key_of, area_of, header2_bytes, headers_of}
use Rattle.luks_volume.specs.Layout2.{image2_of, json_of, metadata_of, payload_of, primary_magic, secondary_magic}
use Rattle.luks_volume.specs.Ranges2.{area_size, area_size_at, area_start, AreParameters2, FitsSlot2}
use Rattle.luks_volume.specs.Ranges2.{AreTyped2, Seal2, Slot2, passphrases2_of}
use Rattle.luks_volume.proofs.Header2.{length-header, primary_start, secondary_start, IsReadAt, read_there}
use Rattle.luks_volume.proofs.Bounds.{short_key}
use Rattle.luks_volume.proofs.Verdicts2.{material_fits, IsUsed, bounds_of, of_key, parts_of}
use Rattle.luks_volume.proofs.TextLemmas.{fixed_size}
use Rattle.luks_volume.proofs.Verdicts2.{segment_is, segment_read, slot_digest, slot_is, slot_parts, slot_usable}
use Rattle.std.specs.Int.{to_be_bytes, w64}
use Rattle.std.proofs.lemmas.Str.{is_utf8-from_IsUtf8}
use Rattle.luks_kdf.specs.declared.hash.Hash.TheVariants.{Sha256}
use Rattle.luks_format.specs.Header1.{is_luks1}
use Rattle.luks_format.specs.Choice2.{beginning_at, binary_at, chosen2_of, header2_at}
use Rattle.luks_format.specs.Choice2.{pair_finding_of}
use Rattle.luks_format.specs.Header2.{sequence_in, size_in}
use Rattle.luks_format.specs.Text2.{json_text_of}
use Rattle.luks_format.specs.declared.binary_header2.Header2.{Header2}
use Rattle.luks_format.specs.declared.binary_header2.HeaderRole.TheVariants.{Primary}
use Rattle.luks2_json.specs.Tree.{has_objects, tree_of}
use Rattle.luks_header.specs.Header.{bounds2_of, header_of as read_header}
use Rattle.luks_header.specs.declared.header.Header.TheVariants.{V2}
use Rattle.luks_volume.proofs.MetadataLemmas.{area_after_headers}
use Rattle.std.proofs.lemmas.List.Elements.{All-map}
use Rattle.luks_format.proofs.MadeLemmas.{segment_by}
use Rattle.luks_format.specs.declared.digest.KeyDigest.{KeyDigest}
use Rattle.luks_format.specs.declared.slot.SlotParts.{SlotParts}
use Rattle.luks2_metadata.specs.Segment2.{segment2_of}
use Rattle.luks2_metadata.specs.Slot2.{verdict2_at}
use Rattle.luks_header.specs.HeaderSegment.{segment_of}
use Rattle.luks_format.specs.Derivation.{without_argon2}
use Rattle.luks_header.specs.SlotVerdicts.{verdict_within}
use Rattle.luks_volume.specs.Sealed.{EndsWith, GivesKey, IsDigestOf, Sealed, SealsKey, SealsPlain}

-- the key material of a slot
abbrev pub material2_of : Seal2 → Slot2 → List ℕ
material2_of p slot =
    encrypted_material (p.area_mode, area_key_of p slot)
    (stripes_of slot.af_hash p.key.now slot.stripes slot.random.now)

-- a text without zero bytes is read back from a field in which zeros follow it
text_back : (text : List ℕ) (n : ℕ) → ((i : ℕ) → i < length text → slice_index text i ≢ 0)
    → text_of (text ++ replicate n 0) ≡ text
text_back [] zero some = refl
text_back [] (suc n) some = refl
text_back (x ∷ text) n some =
    rw (ne_eqb x 0 (some 0 (omega arith)), one-add)
    (ap (λ (t : List ℕ). x ∷ t) (text_back text n (λ i low. some (suc i) (omega arith))))

-- if the image ends with the payload, the payload ends there, whether its length is fixed or not
ends_there : (fixed : Bool) (plain image : List ℕ) (end : ℕ) → length image ≡ end
    → EndsWith (fixed_size fixed (length plain)) plain end image
ends_there true plain image end is = refl
ends_there false plain image end is = is

module _ (p : Seal2) (fits : AreParameters2 p) (json : FitsJson p) (back : ReadsBack p) (typed : AreTyped2 p) where
  -- ---- lengths

  pub random_stripes2 : (slot : Slot2) → FitsSlot2 (length p.key.now) slot
      → AreRandomStripes p.key.now slot.stripes slot.random.now
  random_stripes2 slot of_slot =
      record { some = of_slot.3; few = of_slot.4; max_key = short_key p fits; len = of_slot.5 }

  -- an area is large enough for its key material
  material2_fits : (slot : Slot2) → FitsSlot2 (length p.key.now) slot
      → length (material2_of p slot) ≤ area_size (length p.key.now) slot.stripes
  material2_fits slot of_slot =
      let len = length-material slot.af_hash p.key.now slot.stripes slot.random.now (random_stripes2 slot of_slot)
      (p.area_mode, area_key_of p slot) in
      omega (arith, len, material_fits (length p.key.now) slot.stripes)

  length-area_at : (n : ℕ) → length (area_at p n) ≡ area_size_at p n
  unfolding area_at area_of
  length-area_at n =
      found_has (FitsSlot2 (length p.key.now))
      (λ found. length (option_map_or (area_of p) found [])
      ≡ option_map_or (λ (slot : Slot2). area_size (length p.key.now) slot.stripes) found 0)
      (λ (slot : Slot2). slot.number == n) p.slots.now fits.slots refl
      (λ slot of_slot.
      length-padded (area_size (length p.key.now) slot.stripes) (material2_of p slot) (material2_fits slot of_slot))

  -- the areas of the slots below a number end where the next one starts
  length-areas : (n : ℕ) → 2 * p.hdr_size + length (joined (area_at p) n) ≡ area_start p n
  unfolding joined area_start
  length-areas zero = omega arith
  length-areas (suc n) =
      omega (arith, length-areas n, length-area_at n, length-append (joined (area_at p) n) (area_at p n))

  length-primary : length (header2_bytes p primary_magic p.primary_salt 0) ≡ p.hdr_size
  length-primary = length-header p fits json primary_magic p.primary_salt 0 (primary_start p) typed.primary_salt

  length-secondary : length (header2_bytes p secondary_magic p.secondary_salt p.hdr_size) ≡ p.hdr_size
  length-secondary =
      length-header p fits json secondary_magic p.secondary_salt p.hdr_size (secondary_start p fits)
      typed.secondary_salt

  length-headers : length (headers_of p) ≡ 2 * p.hdr_size
  unfolding headers_of
  length-headers = rw (length-append, length-primary, length-secondary) (omega arith)

  -- the headers and the areas end where an area of slot 32 would start
  pub image2 : IsImage (image2_of p) (headers_of p) (area_at p) 32 p.offset (p.mode, p.key.now)
      (wrapping_number p.iv_tweak (bytes_of p.sector_size / 512)) (bytes_of p.sector_size) p.plain.now
  unfolding image2_of payload_of
  image2 =
      image_made (headers_of p) (area_at p) 32 p.offset (p.mode, p.key.now) p.iv_tweak (bytes_of p.sector_size / 512)
      (bytes_of p.sector_size) p.plain.now (omega (arith, length-headers, length-areas 32, fits.offset.2))
      (sector_blocks p.sector_size).blocks fits.plain.0 typed.plain

  -- ---- the header that a reader finds

  -- the header, as its binary part states it
  unfoldable pub header_is : Header2
  header_is =
      let binary = binary_at (image2_of p) 0 in
      record {
        role = Primary;
        size = size_in binary;
        sequence = sequence_in binary;
        label = text_of (at 24 48 binary);
        hash = Sha256;
        salt = at 104 64 binary;
        uuid = text_of (at 168 40 binary);
        subsystem = text_of (at 208 48 binary);
        finding = None;
        detached = false;
      }

  -- the image is long enough for both headers
  both_long : p.hdr_size + p.hdr_size ≤ length (image2_of p)
  both_long = omega (arith, area_after_headers p 32, image2.len, fits.offset.2)

  primary : IsReadAt p 0 (image2_of p)
  unfolding headers_of
  primary =
      read_there p fits json primary_magic p.primary_salt 0 (primary_start p) typed.primary_salt (image2_of p)
      (image2.in_headers 0 p.hdr_size (omega (arith, length-headers))
      ∙ take_at (header2_bytes p primary_magic p.primary_salt 0)
      (header2_bytes p secondary_magic p.secondary_salt p.hdr_size) p.hdr_size length-primary)
      (omega (arith, both_long))

  secondary : IsReadAt p p.hdr_size (image2_of p)
  unfolding headers_of
  secondary =
      read_there p fits json secondary_magic p.secondary_salt p.hdr_size (secondary_start p fits) typed.secondary_salt
      (image2_of p)
      (image2.in_headers p.hdr_size p.hdr_size (omega (arith, length-headers))
      ∙ at_second p.hdr_size p.hdr_size (header2_bytes p primary_magic p.primary_salt 0)
      (header2_bytes p secondary_magic p.secondary_salt p.hdr_size) (sym length-primary) length-secondary)
      both_long

  -- both headers are valid, with one sequence number
  chosen : chosen2_of (image2_of p) ≡ Some header_is
  unfolding chosen2_of header2_at pair_finding_of header_is
  chosen =
      let number = be64 (to_be_bytes w64 p.seqid) in
      let no_later = le-ltb number number (omega arith) in
      let same = eq-eqb number number refl in
      rw (primary.valid, primary.size, secondary.valid, primary.sequence, secondary.sequence, no_later, same)
      (rw primary.hash refl)

  -- the image does not begin like an image of LUKS1
  not_luks1 : is_luks1 (image2_of p) ≡ false
  unfolding is_luks1 beginning_at
  not_luks1 =
      let begins = sym (at_at 0 8 0 4096 (image2_of p) (omega arith)) ∙ primary.begins in
      rw begins refl

  -- ---- the JSON text

  text_there : json_text_of (image2_of p) header_is ≡ json_of p
  unfolding json_text_of header_is padded
  text_there =
      ap (λ n. text_of (at 4096 (n - 4096) (image2_of p))) primary.size
      ∙ ap text_of primary.json
      ∙ text_back (json_of p) (p.hdr_size - 4096 - length (json_of p)) json.1

  -- reading the image gives this header and the metadata
  pub header_read : read_header (image2_of p) ≡ Ok (V2 header_is (metadata_of p))
  unfolding read_header tree_of has_objects metadata_of
  header_read = rw (not_luks1, chosen, text_there, is_utf8-from_IsUtf8 (json_of p) back.0, back.1) refl

  -- the header sets these bounds
  pub bounds_there : bounds2_of header_is ≡ bounds_of p
  unfolding bounds2_of header_is
  bounds_there = ap (λ (n : ℕ). record { end = 2 * n; detached = false }) primary.size

  -- ---- a key slot

  module _ (slot : Slot2) (used : IsUsed p slot) where
    -- its key material begins its area
    material_there : IsThere (area_start p slot.number) (material2_of p slot) (image2_of p)
    unfolding area_at area_of
    material_there =
        image2.in_area slot.number (area_start p slot.number) (area_size (length p.key.now) slot.stripes)
        (material2_of p slot) (omega (arith, used.fits.0)) (omega (arith, length-headers, length-areas slot.number))
        (rw used.numbered refl) (material2_fits slot used.fits)

    gives2 : GivesKey (parts_of p slot) slot.passphrase.now p.key.now (image2_of p)
    unfolding area_key_of
    gives2 =
        let random = random_stripes2 slot used.fits in
        record {
          kdf = slot.hash;
          iterations = slot.iterations;
          af = slot.af_hash;
          mode = p.area_mode;
          is_kdf = refl;
          is_af = refl;
          is_mode = refl;
          key_bytes = refl;
          material = sector_padded (stripes_of slot.af_hash p.key.now slot.stripes slot.random.now);
          is_material = made_material slot.af_hash (parts_of p slot) p.key.now slot.random.now random;
          is_stored = material_is_stored slot.af_hash p.key.now slot.stripes slot.random.now random
              (p.area_mode, area_key_of p slot) (area_start p slot.number) (image2_of p) typed.key used.typed.random
              material_there;
        }

    seals_key2 : SealsKey (V2 header_is (metadata_of p)) (image2_of p) p.key.now slot.number slot.passphrase.now
    unfolding verdict_within
    seals_key2 = record {
      slot = slot_is p fits typed slot used;
      usable = ap (λ bounds. verdict2_at (metadata_of p) bounds (without_argon2 None) slot.number) bounds_there
          ∙ slot_usable p fits typed slot used;
      gives = subst (λ (parts : SlotParts). GivesKey parts slot.passphrase.now p.key.now (image2_of p))
          (sym (slot_parts p fits typed slot used)) gives2;
      digest_of_key = subst (λ (digest : KeyDigest). IsDigestOf digest p.key.now)
          (sym (slot_digest p fits typed slot used)) (of_key p fits typed);
    }

  -- ---- the payload

  seals_plain2 : SealsPlain (segment_is p fits typed) (image2_of p) p.key.now p.plain.now
  unfolding segment_is segment_by
  seals_plain2 = record {
    is_stored = image2.stored p.offset refl;
    ends = ends_there p.fixed p.plain.now (image2_of p) (p.offset + length p.plain.now) image2.len;
  }

  -- ---- the volume

  pub sealed2 : Sealed (image2_of p) (passphrases2_of p) p.key.now p.plain.now
  unfolding segment_of
  sealed2 = record {
    header = V2 header_is (metadata_of p);
    segment = segment_is p fits typed;
    is_header = header_read;
    is_segment = ap (segment2_of (metadata_of p)) bounds_there ∙ segment_read p fits typed;
    key_bytes = typed.key;
    slots = All-map (λ slot. SealsKey (V2 header_is (metadata_of p)) (image2_of p) p.key.now slot.0 slot.1)
        (λ slot. (slot.number, slot.passphrase.now)) p.slots.now
        (λ k d below.
        seals_key2 (get_or p.slots.now k d) (record {
          fits = fits.slots k d below;
          typed = typed.slots k d below;
          numbered = found_by_number (λ (slot : Slot2). slot.number) p.slots.now fits.distinct k d below;
        }));
    payload = seals_plain2;
  }
