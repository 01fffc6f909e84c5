-- The key that a passphrase gives with a key slot, and whether it is the volume key (LUKS1 On-Disk Format Specification
-- 1.2.3, "Master key recovery"). Stripes are those of the same standard, PBKDF2 is that of RFC 8018, and Argon2 that of
-- RFC 9106.
use Rattle.std.specs.Prelude.{ℕ, ◌+◌, ◌*◌, ◌/◌, Bool, false, bytes_eq, List, Option, Some, None, length, take}
use Rattle.std.specs.Option.{option_map_or}
use Rattle.luks_argon2.specs.Argon2.{argon2}
use Rattle.luks_cipher.specs.Sector.{Cipher, sector_decrypted}
use Rattle.luks_kdf.specs.Bytes.{joined}
use Rattle.luks_cipher.specs.declared.mode.Mode.{Mode}
use Rattle.luks_kdf.specs.Pbkdf2.{derived_key}
use Rattle.luks_kdf.specs.Stripes.{merged}
use Rattle.luks_kdf.specs.declared.hash.Hash.{Hash}
use Rattle.luks_format.specs.Fields.{at}
use Rattle.luks_format.specs.Rule.{key_material_len}
use Rattle.luks_format.specs.declared.derivation.Derivation.{Derivation}
use Rattle.luks_format.specs.declared.derivation.Derivation.TheVariants.{Pbkdf2, Argon2}
use Rattle.luks_format.specs.declared.digest.KeyDigest.{KeyDigest}
use Rattle.luks_format.specs.declared.slot.Slot.{Slot}
use Rattle.luks_format.specs.declared.slot.SlotParts.{SlotParts}

-- sector i of key material from `offset` on, decrypted: the sectors have 512 bytes and are numbered from the material's
-- start
abbrev pub material_sector : Cipher → List ℕ → ℕ → ℕ → List ℕ
material_sector cipher image offset i = sector_decrypted cipher.0 cipher.1 i (at (offset + 512 * i) 512 image)

-- the first `material_len` bytes of key material from `offset` on, decrypted. They are whole sectors
unfoldable pub decrypted_material : Cipher → List ℕ → ℕ → ℕ → List ℕ
decrypted_material cipher image offset material_len = joined (material_sector cipher image offset) (material_len / 512)

-- the key that key material holds: its first stripes, of `key_bytes` bytes each, merged
unfoldable pub recovered : Hash → Cipher → List ℕ → ℕ → ℕ → ℕ → List ℕ
recovered af cipher image offset key_bytes stripes =
    merged af key_bytes (take (key_bytes * stripes) (decrypted_material cipher image offset
    (key_material_len key_bytes stripes)))

-- the key of n bytes that is derived in this way from a passphrase and a salt. PBKDF2 derives none if the name of its
-- hash function is not known
abbrev pub derived_by : Derivation → List ℕ → List ℕ → ℕ → Option (List ℕ)
derived_by (Pbkdf2 (Some hash) iterations) pass salt n = Some (derived_key hash pass salt iterations n)
derived_by (Pbkdf2 None iterations) pass salt n = None
derived_by (Argon2 parameters) pass salt n =
    Some (argon2 parameters.variant pass salt parameters.passes parameters.memory_kib parameters.lanes n)

-- the key that a key slot's material holds, encrypted under this key, with this hash function and this mode
abbrev pub candidate_by : Option (List ℕ) → Option Hash → Option Mode → SlotParts → List ℕ → Option (List ℕ)
candidate_by (Some area_key) (Some af) (Some mode) parts image =
    Some (recovered af (mode, area_key) image parts.area_offset parts.key_bytes parts.stripes)
candidate_by _ _ _ parts image = None

-- the key that a key slot's material holds under a passphrase. There is none if the name of a hash function or of the
-- mode is not known
unfoldable pub candidate_of : Slot → List ℕ → List ℕ → Option (List ℕ)
candidate_of slot image pass =
    let parts = slot.parts in
    candidate_by (derived_by parts.derivation pass parts.salt parts.area_key_bytes) parts.af_hash parts.area_mode parts
    image

-- the key matches the digest: PBKDF2 of the key gives the whole value of the digest. No key does if the name of the
-- digest's hash function is not known
unfoldable pub matches_digest : KeyDigest → List ℕ → Bool
matches_digest digest key =
    let parts = digest.parts in
    option_map_or (λ hash. bytes_eq (derived_key hash key parts.salt parts.iterations (length parts.value)) parts.value)
    parts.hash false
