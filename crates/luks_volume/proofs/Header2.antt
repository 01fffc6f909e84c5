-- A binary header of LUKS2 that was put together is read back where an image has it, and its checksum matches.
use Rattle.std.proofs.Common.{◌≡◌, ◌≢◌, ◌∙◌, ◌+◌, ◌-◌, ◌≤◌, ◌==◌, ℕ, true, List, [], ◌∷◌, ◌++◌, Some, length, take}
use Rattle.std.proofs.Common.{drop, ap, arith, refl, sym, append_assoc, append-nil, length-append, ◌||◌, codes, le-leb}
use Rattle.std.specs.Int.{to_be_bytes, w64}
use Rattle.std.specs.Prelude.{replicate}
use Rattle.std.proofs.lemmas.Bool.{eq-eqb, ne_eqb, or_right}
use Rattle.std.proofs.lemmas.List.{drop_at, take_at}
use Rattle.std.proofs.lemmas.Nat.{from_be_bytes-to_be_bytes_8}
use Rattle.std.proofs.lemmas.Slice.Eq.{bytes_eq-Decides}
use Rattle.luks_format.specs.Fields.{at, be64, text_of}
use Rattle.luks_kdf.specs.Hash.{hash_named, hash_of}
use Rattle.luks_kdf.specs.declared.hash.Hash.TheVariants.{Sha256}
use Rattle.luks_kdf.proofs.Pbkdf2Lemmas.{length-hash_of}
use Rattle.luks_format.specs.Checksum2.{checksum_matches, without_checksum}
use Rattle.luks_format.specs.Choice2.{beginning_at, is_binary_of, binary_at, fits as has_binary, is_valid, size_at}
use Rattle.luks_format.specs.Header2.{checksum_hash_in, hdr_offset_in, sequence_in, size_in}
use Rattle.luks_volume.specs.Pieces.{padded}
use Rattle.luks_volume.proofs.FieldLemmas.{Part, part, at_at, at_inside, length-padded, padded_begins, AreParts}
use Rattle.luks_volume.proofs.FieldLemmas.{are_parts}
use Rattle.luks_volume.specs.Layout2.{fields_end_bytes, fields_of, header2_bytes, middle_of, primary_magic, body_bytes}
use Rattle.luks_volume.specs.Layout2.{secondary_magic, start_of, FitsJson, json_of}
use Rattle.luks_volume.specs.Ranges2.{AreParameters2, is_header_size, Seal2}
use Rattle.luks_volume.proofs.Bounds.{long_header, short_header}

-- the first 24 bytes of a header have its offset's magic, its size and its sequence number; the offset is 0 or the size
pub record IsHeaderStart (p : Seal2) (magic : List ℕ) (offset : ℕ) : Type 0 where
  pub len : length (start_of p magic) ≡ 24
  pub begins : at 0 8 (start_of p magic) ≡ beginning_at offset
  pub size : at 8 8 (start_of p magic) ≡ to_be_bytes w64 p.hdr_size
  pub sequence : at 16 8 (start_of p magic) ≡ to_be_bytes w64 p.seqid
  pub own : (offset == 0 || p.hdr_size == offset) ≡ true
  pub within : offset ≤ p.hdr_size

-- both headers start with such bytes
pub primary_start : (p : Seal2) → IsHeaderStart p primary_magic 0
unfolding start_of beginning_at
primary_start p = record { len = refl; begins = refl; size = refl; sequence = refl; own = refl; within = omega arith }

pub secondary_start : (p : Seal2) → AreParameters2 p → IsHeaderStart p secondary_magic p.hdr_size
unfolding start_of beginning_at
secondary_start p fits =
    let some : p.hdr_size ≢ 0 = λ none. omega (arith, none, long_header p fits) in
    record {
      len = refl;
      begins = rw (ne_eqb p.hdr_size 0 some) refl;
      size = refl;
      sequence = refl;
      own = or_right (p.hdr_size == 0) (p.hdr_size == p.hdr_size) (eq-eqb p.hdr_size p.hdr_size refl);
      within = omega arith;
    }

-- what a reader finds of a header at this offset of an image
pub record IsReadAt (p : Seal2) (offset : ℕ) (image : List ℕ) : Type 0 where
  pub begins : at 0 8 (binary_at image offset) ≡ beginning_at offset
  pub size : size_at image offset ≡ p.hdr_size
  pub sequence : sequence_in (binary_at image offset) ≡ be64 (to_be_bytes w64 p.seqid)
  pub hash : checksum_hash_in (binary_at image offset) ≡ Some Sha256
  pub valid : is_valid image offset ≡ true
  pub json : at (offset + 4096) (p.hdr_size - 4096) image ≡ padded (p.hdr_size - 4096) (json_of p)

-- the checksum's field is replaced by other bytes
zeroed_of : (prefix checksum rest zeros : List ℕ) → length prefix ≡ 448 → length checksum ≡ 64
    → take 448 (prefix ++ checksum ++ rest) ++ zeros ++ drop 512 (prefix ++ checksum ++ rest) ≡ prefix ++ zeros ++ rest
zeroed_of prefix checksum rest zeros long filled =
    let first = ap (take 448) (append_assoc prefix checksum rest) ∙ take_at prefix (checksum ++ rest) 448 long in
    let last = drop_at (prefix ++ checksum) rest 512 (omega (arith, length-append prefix checksum, long, filled)) in
    rw (first, last) refl

module _ (p : Seal2) (fits : AreParameters2 p) (json : FitsJson p) (magic salt : List ℕ) (offset : ℕ)
    (start : IsHeaderStart p magic offset) (salted : length salt ≡ 64) where
  -- ---- parts and lengths

  abbrev made_header : List ℕ
  made_header = header2_bytes p magic salt offset

  abbrev checksum : List ℕ
  checksum = hash_of Sha256 (fields_of p magic salt offset ++ padded 64 [] ++ body_bytes p)

  -- the parts of the bytes before the checksum
  abbrev field_parts : List Part
  field_parts =
      part 24 (start_of p magic) start.len
      ∷ part 48 (padded 48 p.label.now) (length-padded 48 p.label.now fits.texts.1.0)
      ∷ part 32 (padded 32 (codes "sha256")) (length-padded 32 (codes "sha256") (omega arith))
      ∷ part 64 salt salted
      ∷ part 40 (padded 40 p.uuid.now) (length-padded 40 p.uuid.now fits.texts.0.0)
      ∷ part 48 (padded 48 p.subsystem.now) (length-padded 48 p.subsystem.now fits.texts.2.0)
      ∷ part 192 (padded 192 (to_be_bytes w64 offset)) (length-padded 192 (to_be_bytes w64 offset) (omega arith))
      ∷ []

  length-fields : length (fields_of p magic salt offset) ≡ 448
  unfolding middle_of fields_end_bytes
  length-fields = (are_parts (fields_of p magic salt offset) field_parts (simp (append_assoc, append-nil))).len

  checksum_long : length checksum ≡ 32
  checksum_long = length-hash_of Sha256 (fields_of p magic salt offset ++ padded 64 [] ++ body_bytes p)

  length-csum : length (padded 64 checksum) ≡ 64
  length-csum = length-padded 64 checksum (omega (arith, checksum_long))

  -- the parts of the header with its JSON area
  abbrev header_parts : List Part
  header_parts =
      field_parts
      ++ part 64 (padded 64 checksum) length-csum
      ∷ part 3584 (padded 3584 []) (length-padded 3584 [] (omega arith))
      ∷ part (p.hdr_size - 4096) (padded (p.hdr_size - 4096) (json_of p))
      (length-padded (p.hdr_size - 4096) (json_of p) (omega (arith, json.0)))
      ∷ []

  header_are : AreParts made_header header_parts
  unfolding header2_bytes body_bytes middle_of fields_end_bytes
  header_are = are_parts made_header header_parts (simp (append_assoc, append-nil))

  pub length-header : length (header2_bytes p magic salt offset) ≡ p.hdr_size
  length-header = header_are.len ∙ omega (arith, long_header p fits)

  -- ---- fields

  -- bytes within the first 24 bytes are bytes of the start
  in_start : (k len : ℕ) → k + len ≤ 24 → at k len made_header ≡ at k len (start_of p magic)
  in_start k len below =
      at_inside k k len 0 24 made_header (start_of p magic) (omega arith) below (header_are.part_at 0)

  -- ---- the checksum

  -- the name of its hash function is in its field
  hash_known : checksum_hash_in made_header ≡ Some Sha256
  unfolding checksum_hash_in padded
  hash_known = ap (λ field. hash_named (text_of field)) (header_are.part_at 2)

  checksum_there : at 448 32 made_header ≡ checksum
  checksum_there =
      at_inside 448 0 32 448 64 made_header (padded 64 checksum) (omega arith) (omega arith) (header_are.part_at 7)
      ∙ padded_begins 32 64 checksum (sym checksum_long)

  -- the bytes that the checksum is computed over
  zeroed : without_checksum made_header ≡ fields_of p magic salt offset ++ padded 64 [] ++ body_bytes p
  unfolding without_checksum header2_bytes padded
  zeroed =
      zeroed_of (fields_of p magic salt offset) (padded 64 checksum) (body_bytes p) (replicate 64 0) length-fields
      length-csum

  -- the checksum matches
  checksum_holds : checksum_matches made_header ≡ true
  unfolding checksum_matches
  checksum_holds = rw (hash_known, zeroed, checksum_there) ((bytes_eq-Decides checksum checksum).1 refl)

  -- ---- the header in an image

  module _ (image : List ℕ) (there : at offset p.hdr_size image ≡ header2_bytes p magic salt offset)
      (long : offset + p.hdr_size ≤ length image) where
    -- bytes within the first 4096 bytes are bytes of the header
    in_binary : (k len : ℕ) → k + len ≤ 4096 → at k len (binary_at image offset) ≡ at k len made_header
    in_binary k len below =
        at_at k len offset 4096 image below
        ∙ at_inside (offset + k) k len offset p.hdr_size image made_header refl (omega (arith, long_header p fits))
        there

    begins_there : at 0 8 (binary_at image offset) ≡ beginning_at offset
    begins_there = in_binary 0 8 (omega arith) ∙ (in_start 0 8 (omega arith) ∙ start.begins)

    size_there : size_at image offset ≡ p.hdr_size
    unfolding size_in be64
    size_there =
        ap be64 (in_binary 8 8 (omega arith) ∙ (in_start 8 8 (omega arith) ∙ start.size))
        ∙ from_be_bytes-to_be_bytes_8 p.hdr_size (omega (arith, short_header p fits))

    -- the header's own offset is in its field
    offset_there : hdr_offset_in (binary_at image offset) ≡ offset
    unfolding hdr_offset_in be64
    offset_there =
        let own = to_be_bytes w64 offset in
        ap be64
        (in_binary 256 8 (omega arith)
        ∙ (at_inside 256 0 8 256 192 made_header (padded 192 own) (omega arith) (omega arith) (header_are.part_at 6)
        ∙ padded_begins 8 192 own refl))
        ∙ from_be_bytes-to_be_bytes_8 offset (omega (arith, start.within, short_header p fits))

    hash_there : checksum_hash_in (binary_at image offset) ≡ Some Sha256
    unfolding checksum_hash_in
    hash_there = ap (λ field. hash_named (text_of field)) (in_binary 72 32 (omega arith)) ∙ hash_known

    -- the first 4096 bytes are a binary header for its offset
    is_binary : is_binary_of offset (binary_at image offset) ≡ true
    unfolding is_binary_of is_header_size
    is_binary =
        let begins = (bytes_eq-Decides (beginning_at offset) (beginning_at offset)).1 refl in
        let same = eq-eqb offset offset refl in
        rw (begins_there, begins, size_there, fits.size, start.own, offset_there, same, hash_there) refl

    valid_there : is_valid image offset ≡ true
    unfolding is_valid has_binary
    valid_there =
        rw (
          size_there,
          le-leb (offset + 4096) (length image) (omega (arith, long_header p fits)),
          is_binary,
          le-leb (offset + p.hdr_size) (length image) long,
          there,
          checksum_holds,
        ) refl

    pub read_there : IsReadAt p offset image
    unfolding sequence_in
    read_there = record {
      begins = begins_there;
      size = size_there;
      sequence = ap be64 (in_binary 16 8 (omega arith) ∙ (in_start 16 8 (omega arith) ∙ start.sequence));
      hash = hash_there;
      valid = valid_there;
      json = at_inside (offset + 4096) 4096 (p.hdr_size - 4096) offset p.hdr_size image made_header refl
          (omega (arith, long_header p fits)) there
          ∙ header_are.part_at 9;
    }
