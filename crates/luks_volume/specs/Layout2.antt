-- The image of a volume of LUKS2 (LUKS2 On-Disk Format Specification 1.1, sections 2 to 4): its JSON text, with members
-- in the order of their names, its headers, the areas of its key slots, and its payload.
use Rattle.std.specs.Prelude.{◌≡◌, ℕ, zero, suc, ◌-◌, ◌*◌, ◌/◌, Bool, true, false, List, [], ◌∷◌, ◌++◌, length, codes}
use Rattle.std.specs.Prelude.{decimal, IsUtf8, Some}
use Rattle.std.specs.Int.{to_be_bytes, w16, w64}
use Rattle.std.specs.Option.{option_map_or}
use Rattle.base64.specs.Engines.{standard}
use Rattle.base64.specs.GeneralPurpose.{encode_of}
use Rattle.serde_json.specs.Data.{Data, Members, array, member, no_members, number, object, put, string, unsigned}
use Rattle.serde_json.specs.View.{items_of}
use Rattle.serde_json.specs.Read.{read}
use Rattle.serde_json.specs.Written.{compact_text}
use Rattle.luks_cipher.specs.Sector.{mode_name}
use Rattle.luks_cipher.specs.declared.mode.Mode.{Mode}
use Rattle.luks_kdf.specs.Bytes.{joined}
use Rattle.luks_kdf.specs.Hash.{hash_name, hash_of, digest_len}
use Rattle.luks_kdf.specs.Pbkdf2.{derived_key}
use Rattle.luks_kdf.specs.declared.hash.Hash.TheVariants.{Sha256}
use Rattle.luks_format.specs.SectorSize.{bytes_of}
use Rattle.luks_volume.specs.Pieces.{encrypted_material, padded, sectors_encrypted, stripes_of}
use Rattle.luks_volume.specs.Ranges.{FitsText}
use Rattle.luks_volume.specs.Ranges2.{area_size, area_start, slot_numbered, Seal2, Slot2}

-- ---- the JSON text

-- the members of an object, by names and values
abbrev pub members : List (List ℕ × Data) → Members
members [] = no_members
members (m ∷ ms) = member m.0 m.1 (members ms)

-- a number in decimal digits, which the format writes as a string
abbrev pub decimal_value : ℕ → Data
decimal_value n = string (decimal n)

-- bytes in base64
abbrev pub base64_value : List ℕ → Data
base64_value bytes = string (encode_of standard bytes)

-- how sectors are encrypted: AES in this mode
abbrev pub encryption_value : Mode → Data
encryption_value mode = string (codes "aes-" ++ mode_name mode)

-- how the key is split into stripes
unfoldable pub af_object : Slot2 → Data
af_object slot = object (members (
    (codes "hash", string (hash_name slot.af_hash))
    ∷ (codes "stripes", number (unsigned slot.stripes))
    ∷ (codes "type", string (codes "luks1"))
    ∷ []))

-- where the key material is, and how it is encrypted
unfoldable pub area_object : Seal2 → Slot2 → Data
area_object p slot = object (members (
    (codes "encryption", encryption_value p.area_mode)
    ∷ (codes "key_size", number (unsigned p.area_key_size))
    ∷ (codes "offset", decimal_value (area_start p slot.number))
    ∷ (codes "size", decimal_value (area_size (length p.key.now) slot.stripes))
    ∷ (codes "type", string (codes "raw"))
    ∷ []))

-- how the key of the area is derived from the passphrase
unfoldable pub kdf_object : Slot2 → Data
kdf_object slot = object (members (
    (codes "hash", string (hash_name slot.hash))
    ∷ (codes "iterations", number (unsigned slot.iterations))
    ∷ (codes "salt", base64_value slot.salt)
    ∷ (codes "type", string (codes "pbkdf2"))
    ∷ []))

unfoldable pub keyslot_object : Seal2 → Slot2 → Data
keyslot_object p slot = object (members (
    (codes "af", af_object slot)
    ∷ (codes "area", area_object p slot)
    ∷ (codes "kdf", kdf_object slot)
    ∷ (codes "key_size", number (unsigned (length p.key.now)))
    ∷ (codes "priority", number (unsigned slot.priority))
    ∷ (codes "type", string (codes "luks2"))
    ∷ []))

-- the key slots with numbers below this one, each under its number
unfoldable pub keyslots_below : Seal2 → ℕ → Members
keyslots_below p zero = no_members
keyslots_below p (suc n) =
    option_map_or (λ slot. put (decimal n) (keyslot_object p slot) (keyslots_below p n)) (slot_numbered n p.slots.now)
    (keyslots_below p n)

-- the numbers of the slots that are below this one, as strings, in ascending order
unfoldable pub names_below : Seal2 → ℕ → List Data
names_below p zero = []
names_below p (suc n) =
    option_map_or (λ slot. names_below p n ++ decimal_value n ∷ []) (slot_numbered n p.slots.now) (names_below p n)

-- the digest of the volume key, which all key slots hold
unfoldable pub digest_object : Seal2 → Data
digest_object p = object (members ((
  codes "digest",
  base64_value (derived_key p.digest_hash p.key.now p.digest_salt p.digest_iterations
      (digest_len p.digest_hash)),
)
    ∷ (codes "hash", string (hash_name p.digest_hash))
    ∷ (codes "iterations", number (unsigned p.digest_iterations))
    ∷ (codes "keyslots", array (items_of (names_below p 32)))
    ∷ (codes "salt", base64_value p.digest_salt)
    ∷ (codes "segments", array (items_of (string (codes "0") ∷ [])))
    ∷ (codes "type", string (codes "pbkdf2"))
    ∷ []))

-- the payload's length, or `dynamic` if it is not fixed
abbrev pub size_value : Bool → ℕ → Data
size_value true len = decimal_value len
size_value false len = string (codes "dynamic")

-- where the payload is, and how it is encrypted
unfoldable pub segment_object : Seal2 → Data
segment_object p = object (members (
    (codes "encryption", encryption_value p.mode)
    ∷ (codes "iv_tweak", decimal_value p.iv_tweak)
    ∷ (codes "offset", decimal_value p.offset)
    ∷ (codes "sector_size", number (unsigned (bytes_of p.sector_size)))
    ∷ (codes "size", size_value p.fixed (length p.plain.now))
    ∷ (codes "type", string (codes "crypt"))
    ∷ []))

-- the lengths of the JSON area, and of the space for key material
unfoldable pub config_object : Seal2 → Data
config_object p = object (members (
    (codes "json_size", decimal_value (p.hdr_size - 4096))
    ∷ (codes "keyslots_size", decimal_value (p.offset - 2 * p.hdr_size))
    ∷ []))

unfoldable pub metadata_of : Seal2 → Data
metadata_of p = object (members (
    (codes "config", config_object p)
    ∷ (codes "digests", object (members ((codes "0", digest_object p) ∷ [])))
    ∷ (codes "keyslots", object (keyslots_below p 32))
    ∷ (codes "segments", object (members ((codes "0", segment_object p) ∷ [])))
    ∷ (codes "tokens", object no_members)
    ∷ []))

-- the text, without whitespace
unfoldable pub json_of : Seal2 → List ℕ
json_of p = compact_text (metadata_of p)

-- the text fits: it has no zero byte and, with one after it, is no longer than the JSON area
abbrev pub FitsJson : Seal2 → Type 0
FitsJson p = FitsText (p.hdr_size - 4096 - 1) (json_of p)

-- the text is UTF-8, and is read back as the metadata
abbrev pub ReadsBack : Seal2 → Type 0
ReadsBack p = IsUtf8 (json_of p) × (read (json_of p) ≡ Some (metadata_of p))

-- ---- the image

-- the first bytes of the primary header, and of the secondary one
abbrev pub primary_magic : List ℕ
primary_magic = codes "LUKS" ++ 186 ∷ 190 ∷ []

abbrev pub secondary_magic : List ℕ
secondary_magic = codes "SKUL" ++ 186 ∷ 190 ∷ []

-- `magic`, `version`, `hdr_size` and `seqid`
unfoldable pub start_of : Seal2 → List ℕ → List ℕ
start_of p magic = magic ++ to_be_bytes w16 2 ++ to_be_bytes w64 p.hdr_size ++ to_be_bytes w64 p.seqid

-- `label`, `csum_alg` and `salt`
unfoldable pub middle_of : Seal2 → List ℕ → List ℕ
middle_of p salt = padded 48 p.label.now ++ padded 32 (codes "sha256") ++ salt

-- `uuid`, `subsystem` and `hdr_offset`, which is the header's own offset in bytes, and the zeros before the checksum
unfoldable pub fields_end_bytes : Seal2 → ℕ → List ℕ
fields_end_bytes p offset = padded 40 p.uuid.now ++ padded 48 p.subsystem.now ++ padded 192 (to_be_bytes w64 offset)

-- the bytes before the checksum
abbrev pub fields_of : Seal2 → List ℕ → List ℕ → ℕ → List ℕ
fields_of p magic salt offset = start_of p magic ++ middle_of p salt ++ fields_end_bytes p offset

-- the bytes after the checksum: zeros to byte 4096, and the JSON area
unfoldable pub body_bytes : Seal2 → List ℕ
body_bytes p = padded 3584 [] ++ padded (p.hdr_size - 4096) (json_of p)

-- a header with its JSON area. The checksum is the hash of both, with zeros in the checksum's field
unfoldable pub header2_bytes : Seal2 → List ℕ → List ℕ → ℕ → List ℕ
header2_bytes p magic salt offset =
    let fields = fields_of p magic salt offset in
    fields ++ padded 64 (hash_of Sha256 (fields ++ padded 64 [] ++ body_bytes p)) ++ body_bytes p

-- both headers
unfoldable pub headers_of : Seal2 → List ℕ
headers_of p =
    header2_bytes p primary_magic p.primary_salt 0 ++ header2_bytes p secondary_magic p.secondary_salt p.hdr_size

-- the key that encrypts a slot's area: PBKDF2 of the passphrase
unfoldable pub area_key_of : Seal2 → Slot2 → List ℕ
area_key_of p slot = derived_key slot.hash slot.passphrase.now slot.salt slot.iterations p.area_key_size

-- a slot's area: its key material, padded with zeros
unfoldable pub area_of : Seal2 → Slot2 → List ℕ
area_of p slot =
    padded (area_size (length p.key.now) slot.stripes)
    (encrypted_material (p.area_mode, area_key_of p slot)
    (stripes_of slot.af_hash p.key.now slot.stripes slot.random.now))

-- the area of the slot of this number, or no bytes if there is no such slot
unfoldable pub area_at : Seal2 → ℕ → List ℕ
area_at p n = option_map_or (area_of p) (slot_numbered n p.slots.now) []

-- the payload: unit numbers count in steps of 512 bytes, whatever the sector size
unfoldable pub payload_of : Seal2 → List ℕ
payload_of p =
    sectors_encrypted (p.mode, p.key.now) p.iv_tweak (bytes_of p.sector_size / 512) (bytes_of p.sector_size) p.plain.now

-- the whole image: the areas, by ascending slot number, follow the headers, and the payload begins at its offset
unfoldable pub image2_of : Seal2 → List ℕ
image2_of p = padded p.offset (headers_of p ++ joined (area_at p) 32) ++ payload_of p
