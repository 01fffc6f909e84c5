-- Properties of the key slots to be tried.
use Rattle.std.specs.Prelude.{◌≡◌, ℕ, ◌≤◌, true, Some}
use Rattle.luks_cipher.specs.Sector.{is_key_length, is_mode_key_length}
use Rattle.luks_cipher.specs.declared.mode.Mode.{Mode}
use Rattle.luks_kdf.specs.declared.hash.Hash.{Hash}
use Rattle.luks_format.specs.Slot.{material_end}
use Rattle.luks_format.specs.declared.slot.Slot.{Slot}

-- the hash function of the stripes and the mode of a key slot are known, its volume key has a length that keys can
-- have, the key of its key material has a length that the mode allows, and the material ends within the first `loaded`
-- bytes
pub record IsTriable (loaded : ℕ) (slot : Slot) : Type 0 where
  pub af : (hash : Hash) × (slot.parts.af_hash ≡ Some hash)
  pub volume_key : is_key_length slot.parts.key_bytes ≡ true
  pub area : (mode : Mode) × (slot.parts.area_mode ≡ Some mode)
      × (is_mode_key_length mode slot.parts.area_key_bytes ≡ true)
  pub there : material_end slot.parts ≤ loaded
