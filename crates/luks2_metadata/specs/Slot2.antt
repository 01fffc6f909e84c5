-- The verdicts on the key slots of LUKS2 (LUKS2 On-Disk Format Specification 1.1, section 3, the keyslots object).
use Rattle.std.specs.Prelude.{ℕ, ◌&&◌, ◌||◌, not, nat_le, Bool, List, [], ◌∷◌, Option, Some, None, codes, is_none}
use Rattle.std.specs.Prelude.{is_some, if◌then◌else◌, option_and_then, option_map, unwrap_or}
use Rattle.luks_cipher.specs.declared.mode.Mode.{Mode}
use Rattle.std.specs.Option.{option_or}
use Rattle.luks_format.specs.Derivation.{derivation_refusal, has_known_hash}
use Rattle.luks_format.specs.Rule.{area_out_of_range, stripes_out_of_range, key_material_len}
use Rattle.luks_format.specs.Slot.{has_no_usable_digest, slot_from, verdict_by}
use Rattle.luks_format.specs.Table.{first_match}
use Rattle.luks_format.specs.declared.refusal.SkipReason.{SkipReason}
use Rattle.luks_format.specs.declared.refusal.SkipReason.TheVariants.{Kind, Member, Argon2i, Argon2id, Kdf}
use Rattle.luks_format.specs.declared.refusal.SkipReason.TheVariants.{Hash as SkipHash, Encryption, KeySize}
use Rattle.luks_format.specs.declared.refusal.SkipReason.TheVariants.{Stripes, Area, Digest}
use Rattle.luks_format.specs.declared.derivation.Limits.{Limits}
use Rattle.luks_format.specs.declared.slot.Slot.{Slot}
use Rattle.luks_format.specs.declared.slot.SlotParts.{SlotParts}
use Rattle.luks_format.specs.declared.slot.Verdict.{Verdict}
use Rattle.luks2_json.specs.Member.{base64_member, decimal_member, has, is_type, passes, string_member, integer_member}
use Rattle.luks2_json.specs.Member.{in_member, hash_member, is_length_for, encryption_mode}
use Rattle.luks2_metadata.specs.Digest2.{digest2_for}
use Rattle.luks2_metadata.specs.Kdf2.{kdf2_of, is_argon2, is_kdf_type, variant_of}
use Rattle.luks2_json.specs.Numbered.{object_numbered}
use Rattle.luks2_metadata.specs.declared.bounds.Bounds.{Bounds}
use Rattle.luks2_metadata.specs.declared.luks2_slot.values.SlotValues.{SlotValues}
use Rattle.luks2_metadata.specs.Segment2.{payload2_start, payload_mode2_of}
use Rattle.serde_json.specs.Data.{Data}

-- ---- members and their types

-- the priority of a slot: 0, 1 or 2, and 1 if it has none; `None` for any other value
unfoldable pub priority_of : Data → Option ℕ
priority_of slot =
    if has (codes "priority") slot
    then option_and_then (λ n. if nat_le n 2 then Some n else None) (integer_member (codes "priority") slot) else Some 1

-- the value is an `af` object of type luks1 with all its members: how the key material is split into stripes
unfoldable pub is_af : Data → Bool
is_af af =
    is_type (codes "luks1") af
    && is_some (integer_member (codes "stripes") af)
    && is_some (string_member (codes "hash") af)

-- the value is an `area` object of type raw with all its members: where the key material is, and how it is encrypted
unfoldable pub is_area : Data → Bool
is_area area =
    is_type (codes "raw") area
    && is_some (decimal_member (codes "offset") area)
    && is_some (decimal_member (codes "size") area)
    && is_some (string_member (codes "encryption") area)
    && is_some (integer_member (codes "key_size") area)

-- the object has all parameters of PBKDF2
unfoldable pub is_pbkdf2 : Data → Bool
is_pbkdf2 kdf =
    is_some (string_member (codes "hash") kdf)
    && is_some (integer_member (codes "iterations") kdf)
    && is_some (base64_member (codes "salt") kdf)

-- the value is a `kdf` object: its type is a string, and one of type pbkdf2 has all its parameters
unfoldable pub is_kdf : Data → Bool
is_kdf kdf = is_some (string_member (codes "type") kdf) && (not (is_type (codes "pbkdf2") kdf) || is_pbkdf2 kdf)

-- every member of the key slot is present and of the right type, except for those of Argon2
unfoldable pub has_members : Data → Bool
has_members slot =
    is_some (integer_member (codes "key_size") slot)
    && is_some (priority_of slot)
    && passes (codes "af") is_af slot
    && passes (codes "area") is_area slot
    && passes (codes "kdf") is_kdf slot

-- ---- the values of the members

-- the values of a slot's members. Each is 0, no bytes or `None` if the member is missing, of another type or, as a
-- hash function or mode, not known; but a slot without a priority has priority 1
unfoldable pub slot_parts2_of : Data → SlotParts
slot_parts2_of slot = record {
  priority = unwrap_or (priority_of slot) 0;
  derivation = kdf2_of slot;
  salt = unwrap_or (in_member (codes "kdf") (base64_member (codes "salt")) slot) [];
  af_hash = in_member (codes "af") hash_member slot;
  stripes = unwrap_or (in_member (codes "af") (integer_member (codes "stripes")) slot) 0;
  key_bytes = unwrap_or (integer_member (codes "key_size") slot) 0;
  area_key_bytes = unwrap_or (in_member (codes "area") (integer_member (codes "key_size")) slot) 0;
  area_offset = unwrap_or (in_member (codes "area") (decimal_member (codes "offset")) slot) 0;
  area_size = unwrap_or (in_member (codes "area") (decimal_member (codes "size")) slot) 0;
  area_mode = option_and_then encryption_mode (in_member (codes "area") (string_member (codes "encryption")) slot);
}

-- the same without the salt
unfoldable pub values_of : SlotParts → SlotValues
values_of parts = record {
  priority = parts.priority;
  derivation = parts.derivation;
  af_hash = parts.af_hash;
  stripes = parts.stripes;
  key_bytes = parts.key_bytes;
  area_key_bytes = parts.area_key_bytes;
  area_offset = parts.area_offset;
  area_size = parts.area_size;
  area_mode = parts.area_mode;
}

-- ---- the table of reasons

-- the reasons to skip a slot because of what it is and of the function that derives its key. Without limits for Argon2
-- no key is derived by it
unfoldable pub form_reasons : Limits → Data → List (Bool × SkipReason)
form_reasons limits slot =
    (not (is_type (codes "luks2") slot), Kind)
    ∷ (not (has_members slot), Member)
    ∷ (is_none limits.argon2 && is_kdf_type (codes "argon2i") slot, Argon2i)
    ∷ (is_none limits.argon2 && is_kdf_type (codes "argon2id") slot, Argon2id)
    ∷ (is_none (variant_of slot) && not (is_kdf_type (codes "pbkdf2") slot), Kdf)
    ∷ (is_some (variant_of slot) && not (passes (codes "kdf") is_argon2 slot), Member)
    ∷ []

-- the reasons because of the hash functions, the modes, the keys and the stripes. The key of the key material has to
-- have a valid length for the area's mode, the volume key one for the payload's mode
unfoldable pub material_reasons : Option Mode → SlotParts → List (Bool × SkipReason)
material_reasons payload_mode parts =
    (not (has_known_hash parts.derivation) || is_none parts.af_hash, SkipHash)
    ∷ (is_none parts.area_mode, Encryption)
    ∷ (not (is_length_for parts.area_mode parts.area_key_bytes && is_length_for payload_mode parts.key_bytes), KeySize)
    ∷ (stripes_out_of_range parts.stripes, Stripes)
    ∷ []

-- the reasons because of the area of the slot of this number, and of its digest
unfoldable pub place_reasons : Data → Bounds → Option ℕ → ℕ → SlotParts → List (Bool × SkipReason)
place_reasons tree bounds max_iterations number parts = (
  area_out_of_range bounds.end (payload2_start tree bounds) parts.area_offset parts.area_size
      (key_material_len parts.key_bytes parts.stripes),
  Area,
)
    ∷ (has_no_usable_digest max_iterations (digest2_for tree number), Digest)
    ∷ []

-- the first reason to skip the slot of this number, in a header with these bounds
unfoldable pub reason2_of : Data → Bounds → Limits → ℕ → Data → Option SkipReason
reason2_of tree bounds limits number slot =
    let parts = slot_parts2_of slot in
    option_or (first_match (form_reasons limits slot))
    (option_or (first_match (material_reasons (payload_mode2_of tree bounds) parts))
    (option_or (derivation_refusal limits parts.derivation)
    (first_match (place_reasons tree bounds limits.max_iterations number parts))))

-- ---- verdicts

-- what is needed to open the slot of this number, unless there is a reason to skip it
unfoldable pub slot2_of : Data → Bounds → Limits → ℕ → Data → Option Slot
slot2_of tree bounds limits number slot =
    if is_none (reason2_of tree bounds limits number slot)
    then slot_from (slot_parts2_of slot) (digest2_for tree number)
    else None

-- the verdict on the slot of this number
unfoldable pub verdict2_of : Data → Bounds → Limits → ℕ → Data → Verdict
verdict2_of tree bounds limits number slot =
    verdict_by (reason2_of tree bounds limits number slot) (slot_from (slot_parts2_of slot) (digest2_for tree number))

-- the verdict on the key slot of this number, if there is one
unfoldable pub verdict2_at : Data → Bounds → Limits → ℕ → Option Verdict
verdict2_at tree bounds limits number =
    option_map (verdict2_of tree bounds limits number) (object_numbered (codes "keyslots") tree number)

-- what is needed to open the key slot of this number, unless there is a reason to skip it
unfoldable pub slot2_at : Data → Bounds → Limits → ℕ → Option Slot
slot2_at tree bounds limits number =
    option_and_then (slot2_of tree bounds limits number) (object_numbered (codes "keyslots") tree number)
