-- How the key of a slot's key material is derived (LUKS2 On-Disk Format Specification 1.1, section 3, the kdf object).
use Rattle.std.specs.Prelude.{ℕ, ◌^◌, ◌&&◌, Bool, false, List, Option, Some, None, codes, if◌then◌else◌, is_some}
use Rattle.std.specs.Prelude.{length}
use Rattle.std.specs.Prelude.{nat_lt, option_map, unwrap_or}
use Rattle.std.specs.Option.{option_map_or}
use Rattle.luks_argon2.specs.declared.variant.Variant.{Variant}
use Rattle.luks_argon2.specs.declared.variant.Variant.TheVariants.{Argon2i, Argon2id}
use Rattle.luks_format.specs.declared.derivation.Derivation.{Derivation}
use Rattle.luks_format.specs.declared.derivation.Derivation.TheVariants.{Pbkdf2, Argon2}
use Rattle.luks2_json.specs.Member.{base64_member, hash_member, in_member, integer_member, is_type, passes}
use Rattle.serde_json.specs.Data.{Data}

-- the slot's key derivation function is of this type
abbrev pub is_kdf_type : List ℕ → Data → Bool
is_kdf_type type slot = passes (codes "kdf") (is_type type) slot

-- the variant of Argon2 that derives the slot's key, if one does
unfoldable pub variant_of : Data → Option Variant
variant_of slot = if is_kdf_type (codes "argon2i") slot then Some Argon2i
    else if is_kdf_type (codes "argon2id") slot then Some Argon2id else None

-- the length of the salt, if the object has one
abbrev pub salt_len : Data → Option ℕ
salt_len kdf = option_map (λ (salt : List ℕ). length salt) (base64_member (codes "salt") kdf)

-- the object has all parameters of Argon2. The salt may have any length that Argon2 allows (RFC 9106, section 3.1)
unfoldable pub is_argon2 : Data → Bool
is_argon2 kdf =
    option_map_or (λ len. nat_lt len (2 ^ 32)) (salt_len kdf) false
    && is_some (integer_member (codes "time") kdf)
    && is_some (integer_member (codes "memory") kdf)
    && is_some (integer_member (codes "cpus") kdf)

-- the number under this name, or 0 if it is missing
abbrev pub kdf_number : List ℕ → Data → ℕ
kdf_number name slot = unwrap_or (in_member (codes "kdf") (integer_member name) slot) 0

-- how a key is derived by this variant of Argon2, or by PBKDF2
abbrev pub derivation_by : Option Variant → Data → Derivation
derivation_by (Some variant) slot = Argon2 record {
  variant = variant;
  passes = kdf_number (codes "time") slot;
  memory_kib = kdf_number (codes "memory") slot;
  lanes = kdf_number (codes "cpus") slot;
}
derivation_by None slot = Pbkdf2 (in_member (codes "kdf") hash_member slot) (kdf_number (codes "iterations") slot)

-- how the slot's key is derived
unfoldable pub kdf2_of : Data → Derivation
kdf2_of slot = derivation_by (variant_of slot) slot
