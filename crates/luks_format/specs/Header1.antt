-- The header of LUKS1 (LUKS1 On-Disk Format Specification 1.2.3, section 2.1 and figures 1 to 3).
use Rattle.std.specs.Prelude.{ℕ, ◌+◌, ◌*◌, ◌==◌, Bool, false, List, [], ◌∷◌, bytes_eq, map, if◌then◌else◌}
use Rattle.luks_format.specs.Fields.{at, be32, text_of}
use Rattle.luks_format.specs.declared.header.Header1.{Header1}
use Rattle.luks_format.specs.declared.header.StoredSlot.{StoredSlot}
use Rattle.luks_format.specs.declared.header.SlotState.{SlotState}
use Rattle.luks_format.specs.declared.header.SlotState.TheVariants.{Enabled, Disabled, Damaged}

-- the image starts with the letters LUKS, the bytes BA BE, and the version 1 in two bytes
unfoldable pub is_luks1 : List ℕ → Bool
is_luks1 image = bytes_eq (at 0 8 image) (0x4c ∷ 0x55 ∷ 0x4b ∷ 0x53 ∷ 0xba ∷ 0xbe ∷ 0x00 ∷ 0x01 ∷ [])

-- the length of the header in bytes
abbrev pub header1_len : ℕ
header1_len = 592

-- the state that a number encodes
abbrev pub slot_state : ℕ → SlotState
slot_state n = if n == 0x00ac71f3 then Enabled else if n == 0x0000dead then Disabled else Damaged n

-- the key slot that 48 bytes encode
unfoldable pub key_slot_of : List ℕ → StoredSlot
key_slot_of bytes = record {
  state = slot_state (be32 (at 0 4 bytes));
  iterations = be32 (at 4 4 bytes);
  salt = at 8 32 bytes;
  offset = be32 (at 40 4 bytes);
  stripes = be32 (at 44 4 bytes);
}

-- the eight key slots of a header, 48 bytes each from byte 208 on
unfoldable pub key_slots_of : List ℕ → List StoredSlot
key_slots_of bytes = map (λ i. key_slot_of (at (208 + 48 * i) 48 bytes)) (0 ∷ 1 ∷ 2 ∷ 3 ∷ 4 ∷ 5 ∷ 6 ∷ 7 ∷ [])

-- the header that 592 bytes encode. It is read as an attached one
unfoldable pub header1_of : List ℕ → Header1
header1_of bytes = record {
  cipher_name = text_of (at 8 32 bytes);
  cipher_mode = text_of (at 40 32 bytes);
  hash_spec = text_of (at 72 32 bytes);
  payload_offset = be32 (at 104 4 bytes);
  key_bytes = be32 (at 108 4 bytes);
  digest = at 112 20 bytes;
  digest_salt = at 132 32 bytes;
  digest_iterations = be32 (at 164 4 bytes);
  uuid = text_of (at 168 40 bytes);
  slots = key_slots_of bytes;
  detached = false;
}
