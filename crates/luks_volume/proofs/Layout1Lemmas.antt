-- The image of a volume of LUKS1: how long its parts are, where they are stored, and what a reader finds in the header.
use Rattle.std.proofs.Common.{◌≡◌, ◌==◌, ◌∙◌, ℕ, ◌+◌, ◌-◌, ◌*◌, ◌<◌, ◌≤◌, List, [], ◌∷◌, ◌++◌, length, Some}
use Rattle.std.proofs.Common.{refl, sym, arith, append_assoc, append-nil, length-append, codes, zero, suc, ◌^◌}
use Rattle.std.proofs.Common.{false, ap, slice_get, mul-le-mul_right}
use Rattle.std.specs.Int.{to_be_bytes, w32}
use Rattle.std.specs.Option.{option_map_or}
use Rattle.luks_format.specs.Fields.{at, be32, text_of}
use Rattle.luks_cipher.specs.Sector.{mode_name}
use Rattle.luks_cipher.proofs.ModeLemmas.{max_mode_key}
use Rattle.luks_kdf.specs.Bytes.{joined}
use Rattle.luks_kdf.specs.Hash.{hash_name}
use Rattle.luks_kdf.specs.Pbkdf2.{derived_key}
use Rattle.luks_kdf.proofs.Pbkdf2Lemmas.{length-derived_key}
use Rattle.luks_format.specs.Rule.{key_material_len}
use Rattle.luks_volume.specs.Pieces.{padded, wrapping_number}
use Rattle.luks_volume.proofs.FieldLemmas.{Part, part, padded_begins, length-padded, at_inside, AreParts, are_parts}
use Rattle.luks_volume.proofs.FieldLemmas.{IsThere}
use Rattle.luks_volume.proofs.SectorLemmas.{IsImage, image_made, pieces_length, piece_at}
use Rattle.luks_volume.proofs.MaterialLemmas.{AreRandomStripes, length-material}
use Rattle.luks_volume.proofs.MaterialLemmas.{cipher_is_named, hash_is_named, mode_is_named}
use Rattle.luks_volume.proofs.SlotLemmas.{found_has}
use Rattle.luks_volume.specs.Layout1.{area1_of, area_key1_of, area_sectors_of, digest1_fields, fields1_of}
use Rattle.luks_volume.specs.Layout1.{header1_bytes}
use Rattle.luks_volume.specs.Layout1.{image1_of, key_slot1_of, material1_of, middle1_of, payload1_bytes, slot1_numbered}
use Rattle.luks_volume.specs.Layout1.{start1_of, state1_of}
use Rattle.luks_volume.specs.Ranges1.{AreParameters1, FitsSlot1, AreTyped1, IsTypedSlot1, Seal1, Slot1}
use Rattle.std.proofs.lemmas.Nat.{from_be_bytes-to_be_bytes_4}
use Rattle.luks_format.specs.Header1.{key_slot_of, key_slots_of, header1_of as read_header1}
use Rattle.luks_format.specs.declared.header.Header1.{Header1}
use Rattle.luks_format.specs.declared.header.StoredSlot.{StoredSlot}
use Rattle.luks_format.specs.declared.header.SlotState.TheVariants.{Enabled}

-- ---- the header

-- three groups of three parts each, and two more parts
regrouped : (a b c d e f g h i j k : List ℕ) → (a ++ b ++ c) ++ (d ++ e ++ f) ++ (g ++ h ++ i) ++ j ++ k
    ≡ a ++ (b ++ (c ++ (d ++ (e ++ (f ++ (g ++ (h ++ (i ++ (j ++ (k ++ []))))))))))
regrouped a b c d e f g h i j k = simp (append_assoc, append-nil)

-- the 592 bytes of a header
abbrev pub header1_start_bytes : Seal1 → List ℕ
header1_start_bytes p = fields1_of p ++ joined (key_slot1_of p) 8

-- a key slot in use
pub record IsUsed (p : Seal1) (slot : Slot1) : Type 0 where
  pub fits : FitsSlot1 ((p.stripes - 1) * length p.key.now) slot
  pub typed : IsTypedSlot1 slot
  pub found : slot1_numbered slot.number p.slots.now ≡ Some slot

-- ---- what a reader finds

-- a number written as four bytes is read back
number_read : (field : List ℕ) (n : ℕ) → n < 2 ^ 32 → field ≡ to_be_bytes w32 n → be32 field ≡ n
unfolding be32
number_read field n small is = ap be32 is ∙ from_be_bytes-to_be_bytes_4 n small

-- the key slot that is read for a slot in use
abbrev pub stored_slot : ℕ → ℕ → Slot1 → StoredSlot
stored_slot offset count slot = record {
  state = Enabled;
  iterations = slot.iterations;
  salt = slot.salt;
  offset = offset;
  stripes = count;
}

abbrev pub found_slot : Seal1 → Slot1 → StoredSlot
found_slot p slot = stored_slot (8 + slot.number * area_sectors_of p) p.stripes slot

-- the header that is read
abbrev pub found_header : Seal1 → Header1
found_header p = record {
  cipher_name = codes "aes";
  cipher_mode = mode_name p.mode;
  hash_spec = hash_name p.hash;
  payload_offset = p.payload_sectors;
  key_bytes = length p.key.now;
  digest = derived_key p.hash p.key.now p.digest_salt p.digest_iterations 20;
  digest_salt = p.digest_salt;
  digest_iterations = p.digest_iterations;
  uuid = text_of (at 168 40 (header1_start_bytes p));
  slots = key_slots_of (header1_start_bytes p);
  detached = false;
}

regrouped_slot : (a b c d e : List ℕ) → (a ++ b ++ c) ++ d ++ e ≡ a ++ (b ++ (c ++ (d ++ (e ++ []))))
regrouped_slot a b c d e = simp (append_assoc, append-nil)

module _ (slot : Slot1) (offset count : ℕ) (salt : length slot.salt ≡ 32) where
  -- the bytes of a key slot in use, and its fields with their lengths
  abbrev used_slot : List ℕ
  used_slot = state1_of (Some slot) ++ to_be_bytes w32 offset ++ to_be_bytes w32 count

  abbrev slot_parts : List Part
  slot_parts =
      part 4 (to_be_bytes w32 0x00ac71f3) refl
      ∷ part 4 (to_be_bytes w32 slot.iterations) refl
      ∷ part 32 slot.salt salt
      ∷ part 4 (to_be_bytes w32 offset) refl
      ∷ part 4 (to_be_bytes w32 count) refl
      ∷ []

  slot_are : AreParts used_slot slot_parts
  unfolding state1_of
  slot_are =
      are_parts used_slot slot_parts
      (regrouped_slot (to_be_bytes w32 0x00ac71f3) (to_be_bytes w32 slot.iterations) slot.salt (to_be_bytes w32 offset)
      (to_be_bytes w32 count))

  key_slot_read : slot.iterations < 2 ^ 32 → offset < 2 ^ 32 → count < 2 ^ 32
      → key_slot_of used_slot ≡ stored_slot offset count slot
  unfolding key_slot_of
  key_slot_read small low few =
      let state = number_read (at 0 4 used_slot) 0x00ac71f3 (omega arith) (slot_are.part_at 0) in
      let iterations = number_read (at 4 4 used_slot) slot.iterations small (slot_are.part_at 1) in
      let salt_there : at 8 32 used_slot ≡ slot.salt = slot_are.part_at 2 in
      let offset_there = number_read (at 40 4 used_slot) offset low (slot_are.part_at 3) in
      let stripes = number_read (at 44 4 used_slot) count few (slot_are.part_at 4) in
      rw (state, iterations, salt_there, offset_there, stripes) refl

-- each key slot of a header is read from its own 48 bytes
key_slots_read : (bytes : List ℕ) (number : ℕ) → number < 8
    → slice_get (key_slots_of bytes) number ≡ Some (key_slot_of (at (208 + 48 * number) 48 bytes))
unfolding key_slots_of
key_slots_read bytes zero low = refl
key_slots_read bytes (suc zero) low = refl
key_slots_read bytes (suc (suc zero)) low = refl
key_slots_read bytes (suc (suc (suc zero))) low = refl
key_slots_read bytes (suc (suc (suc (suc zero)))) low = refl
key_slots_read bytes (suc (suc (suc (suc (suc zero))))) low = refl
key_slots_read bytes (suc (suc (suc (suc (suc (suc zero)))))) low = refl
key_slots_read bytes (suc (suc (suc (suc (suc (suc (suc zero))))))) low = refl
key_slots_read bytes (suc (suc (suc (suc (suc (suc (suc (suc n)))))))) low = absurd (omega arith)

module _ (p : Seal1) (fits : AreParameters1 p) (typed : AreTyped1 p) where
  -- ---- the key slots

  length-state1 : (number : ℕ) → length (state1_of (slot1_numbered number p.slots.now)) ≡ 40
  unfolding state1_of
  length-state1 number =
      found_has IsTypedSlot1 (λ found. length (state1_of found) ≡ 40) (λ (slot : Slot1). slot.number == number)
      p.slots.now typed.slots (omega (arith, length-padded 36 [] (omega arith))) (λ slot is. omega (arith, is.salt))

  pub length-key_slot1 : (number : ℕ) → length (key_slot1_of p number) ≡ 48
  unfolding key_slot1_of
  length-key_slot1 number =
      let state = state1_of (slot1_numbered number p.slots.now) in
      let offset = to_be_bytes w32 (8 + number * area_sectors_of p) in
      let stripes = to_be_bytes w32 p.stripes in
      omega (arith, length-append (state ++ offset) stripes, length-append state offset, length-state1 number)

  -- ---- the header

  -- its parts with their lengths: the fields, and all key slots
  abbrev pub header1_parts : List Part
  header1_parts =
      part 8 (codes "LUKS" ++ 186 ∷ 190 ∷ 0 ∷ 1 ∷ []) refl
      ∷ part 32 (padded 32 (codes "aes")) cipher_is_named.len
      ∷ part 32 (padded 32 (mode_name p.mode)) (mode_is_named p.mode).len
      ∷ part 32 (padded 32 (hash_name p.hash)) (hash_is_named p.hash).len
      ∷ part 4 (to_be_bytes w32 p.payload_sectors) refl
      ∷ part 4 (to_be_bytes w32 (length p.key.now)) refl
      ∷ part 20 (derived_key p.hash p.key.now p.digest_salt p.digest_iterations 20)
      (length-derived_key p.hash p.key.now p.digest_salt p.digest_iterations 20)
      ∷ part 32 p.digest_salt typed.salt
      ∷ part 4 (to_be_bytes w32 p.digest_iterations) refl
      ∷ part 40 (padded 40 p.uuid.now) (length-padded 40 p.uuid.now fits.uuid.0)
      ∷ part 384 (joined (key_slot1_of p) 8) (pieces_length (key_slot1_of p) 48 8 (λ j low. length-key_slot1 j))
      ∷ []

  pub header1_are : AreParts (header1_start_bytes p) header1_parts
  unfolding fields1_of start1_of middle1_of digest1_fields
  header1_are =
      are_parts (header1_start_bytes p) header1_parts
      (regrouped (codes "LUKS" ++ 186 ∷ 190 ∷ 0 ∷ 1 ∷ []) (padded 32 (codes "aes")) (padded 32 (mode_name p.mode))
      (padded 32 (hash_name p.hash)) (to_be_bytes w32 p.payload_sectors) (to_be_bytes w32 (length p.key.now))
      (derived_key p.hash p.key.now p.digest_salt p.digest_iterations 20) p.digest_salt
      (to_be_bytes w32 p.digest_iterations) (padded 40 p.uuid.now) (joined (key_slot1_of p) 8))

  length-header1 : length (header1_bytes p) ≡ 4096
  unfolding header1_bytes
  length-header1 = length-padded 4096 (header1_start_bytes p) (omega (arith, header1_are.len))

  -- ---- the areas

  -- each slot has as many random bytes as its stripes need
  pub random_stripes1 : (slot : Slot1) → FitsSlot1 ((p.stripes - 1) * length p.key.now) slot
      → AreRandomStripes p.key.now p.stripes slot.random.now
  random_stripes1 slot of_slot = record {
    some = fits.counts.0;
    few = fits.counts.1;
    max_key = max_mode_key p.mode (length p.key.now) fits.key;
    len = of_slot.2;
  }

  -- an area is large enough for its key material
  pub material1_fits : (slot : Slot1) → FitsSlot1 ((p.stripes - 1) * length p.key.now) slot
      → length (material1_of p slot) ≤ area_sectors_of p * 512
  unfolding material1_of key_material_len
  material1_fits slot of_slot =
      let len = length-material p.hash p.key.now p.stripes slot.random.now (random_stripes1 slot of_slot)
      (p.mode, area_key1_of p slot) in
      omega (arith, len)

  length-area1 : (number : ℕ) → length (area1_of p number) ≡ area_sectors_of p * 512
  unfolding area1_of
  length-area1 number =
      length-padded (area_sectors_of p * 512) (option_map_or (material1_of p) (slot1_numbered number p.slots.now) [])
      (found_has (FitsSlot1 ((p.stripes - 1) * length p.key.now))
      (λ found. length (option_map_or (material1_of p) found []) ≤ area_sectors_of p * 512)
      (λ (slot : Slot1). slot.number == number) p.slots.now fits.slots (omega arith) material1_fits)

  -- ---- the image

  length-areas1 : (n : ℕ) → length (joined (area1_of p) n) ≡ n * (area_sectors_of p * 512)
  length-areas1 n = pieces_length (area1_of p) (area_sectors_of p * 512) n (λ j low. length-area1 j)

  -- the header and the areas end where the payload begins, or before
  pub image1 : IsImage (image1_of p) (header1_bytes p) (area1_of p) 8 (p.payload_sectors * 512) (p.mode, p.key.now)
      (wrapping_number 0 1) 512 p.plain.now
  unfolding image1_of payload1_bytes
  image1 =
      image_made (header1_bytes p) (area1_of p) 8 (p.payload_sectors * 512) (p.mode, p.key.now) 0 1 512 p.plain.now
      (omega (arith, length-header1, length-areas1 8, fits.counts.3)) refl fits.plain.0 typed.plain

  -- the image starts with the header
  pub whole_header : at 0 592 (image1_of p) ≡ header1_start_bytes p
  unfolding header1_bytes
  whole_header =
      image1.in_headers 0 592 (omega (arith, length-header1))
      ∙ padded_begins 592 4096 (header1_start_bytes p) (sym header1_are.len)

  -- the header is read from the 592 bytes
  pub header1_read : read_header1 (header1_start_bytes p) ≡ found_header p
  unfolding read_header1
  header1_read =
      let bytes = header1_start_bytes p in
      let key_fits = max_mode_key p.mode (length p.key.now) fits.key in
      let cipher = ap text_of (header1_are.part_at 1) ∙ cipher_is_named.read in
      let mode = ap text_of (header1_are.part_at 2) ∙ (mode_is_named p.mode).read in
      let hash = ap text_of (header1_are.part_at 3) ∙ (hash_is_named p.hash).read in
      let payload = number_read _ p.payload_sectors (omega (arith, fits.counts.4)) (header1_are.part_at 4) in
      let key = number_read (at 108 4 bytes) (length p.key.now) (omega (arith, key_fits)) (header1_are.part_at 5) in
      let digest = header1_are.part_at 6 in
      let salt = header1_are.part_at 7 in
      let iterations = number_read (at 164 4 bytes) p.digest_iterations typed.iterations (header1_are.part_at 8) in
      rw (cipher, mode, hash, payload, key, digest, salt, iterations) refl

  -- ---- a key slot in use

  module _ (slot : Slot1) (used : IsUsed p slot) where
    low : slot.number < 8
    low = omega (arith, used.fits.0)

    -- its key material ends before the payload
    pub ends_before : 512 * (8 + slot.number * area_sectors_of p) + key_material_len (length p.key.now) p.stripes
        ≤ 512 * p.payload_sectors
    unfolding key_material_len
    ends_before =
        let below = mul-le-mul_right {m = slot.number + 1} {n = 8} (area_sectors_of p) (omega (arith, low)) in
        omega (arith, below, fits.counts.3)

    -- its key material begins its area; the first area is at byte 4096
    pub material_there : IsThere (512 * (8 + slot.number * area_sectors_of p)) (material1_of p slot) (image1_of p)
    unfolding area1_of
    material_there =
        image1.in_area slot.number (512 * (8 + slot.number * area_sectors_of p)) (area_sectors_of p * 512)
        (material1_of p slot) low (omega (arith, length-header1, length-areas1 slot.number)) (rw used.found refl)
        (material1_fits slot used.fits)

    slot_bytes_read : key_slot_of (key_slot1_of p slot.number) ≡ found_slot p slot
    unfolding key_slot1_of
    slot_bytes_read =
        let below = ends_before in
        rw used.found
        (key_slot_read slot (8 + slot.number * area_sectors_of p) p.stripes used.typed.salt used.typed.iterations
        (omega (arith, below, fits.counts.4)) (omega (arith, fits.counts.1)))

    -- it is read from the header
    pub slot_read : slice_get (key_slots_of (header1_start_bytes p)) slot.number ≡ Some (found_slot p slot)
    slot_read =
        key_slots_read (header1_start_bytes p) slot.number low
        ∙ ap (λ b. Some (key_slot_of b))
        (at_inside (208 + 48 * slot.number) (slot.number * 48) 48 208 384 (header1_start_bytes p)
        (joined (key_slot1_of p) 8) (omega arith) (omega (arith, low)) (header1_are.part_at 10)
        ∙ piece_at (key_slot1_of p) 48 8 slot.number (λ j below. length-key_slot1 j) low)
        ∙ ap Some slot_bytes_read
