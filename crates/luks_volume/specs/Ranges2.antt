-- The parameters of a volume of LUKS2: the key slots by their numbers and where their areas are, the ranges of all
-- parameters, what their types guarantee, and the passphrases of the key slots.
use Rattle.std.specs.Prelude.{◌==◌, ℕ, zero, suc, ◌+◌, ◌*◌, ◌/◌, List, find, length, Option, ◌≡◌, ◌-◌, ◌%◌, ◌≤◌, Bool}
use Rattle.std.specs.Prelude.{true, All, ◌<◌, ◌^◌, map}
use Rattle.std.specs.Option.{option_map_or}
use Rattle.std.specs.List.{list_any}
use Rattle.luks_format.specs.SectorSize.{bytes_of}
use Rattle.luks_format.specs.Header2.{sizes}
use Rattle.luks_volume.specs.Ranges.{AreDistinct, FitsKey, FitsPlain, FitsText}
use Rattle.luks_aes.specs.Bytes.{IsBytes}
pub use Rattle.luks_volume.specs.declared.parameters.Seal2.{Seal2}
pub use Rattle.luks_volume.specs.declared.parameters.Slot2.{Slot2}

-- the slot of this number, if there is one
abbrev pub slot_numbered : ℕ → List Slot2 → Option Slot2
slot_numbered number slots = find (λ (slot : Slot2). slot.number == number) slots

-- the length of a slot's area in bytes: all stripes of the key, rounded up to a multiple of 4096
abbrev pub area_size : ℕ → ℕ → ℕ
area_size key stripes = (key * stripes + 4095) / 4096 * 4096

-- the length of the area of the slot of this number, or 0 if there is no such slot
abbrev pub area_size_at : Seal2 → ℕ → ℕ
area_size_at p number =
    option_map_or (λ slot. area_size (length p.key.now) slot.stripes) (slot_numbered number p.slots.now) 0

-- where the area of the slot of this number starts, in bytes: after both headers and the areas of all slots with lower
-- numbers
unfoldable pub area_start : Seal2 → ℕ → ℕ
area_start p zero = 2 * p.hdr_size
area_start p (suc number) = area_start p number + area_size_at p number

-- ---- ranges

-- a header and its JSON area can have this length in bytes together (LUKS2 On-Disk Format Specification 1.1, section
-- 2.2)
unfoldable pub is_header_size : ℕ → Bool
is_header_size n = list_any (λ size. size == n) sizes

-- the keys of the payload and of the areas have lengths that their modes allow
abbrev pub FitKeys : Seal2 → Type 0
FitKeys p = FitsKey p.mode (length p.key.now) × FitsKey p.area_mode p.area_key_size

-- the texts of the header fit their fields
abbrev pub FitTexts : Seal2 → Type 0
FitTexts p = FitsText 40 p.uuid.now × FitsText 48 p.label.now × FitsText 48 p.subsystem.now

-- the slot fits a volume whose key has this many bytes
abbrev pub FitsSlot2 : ℕ → Slot2 → Type 0
FitsSlot2 key slot = (slot.number ≤ 31) × (slot.priority ≤ 2) × (1 ≤ slot.iterations) × (1 ≤ slot.stripes)
    × (slot.stripes ≤ 4000) × (length slot.random.now ≡ (slot.stripes - 1) * key)

-- the payload begins after all areas, at a multiple of 4096 bytes, and at byte 33,554,432 at most
abbrev pub FitsOffset : Seal2 → Type 0
FitsOffset p = (p.offset % 4096 ≡ 0) × (p.offset ≤ 33554432) × (area_start p 32 ≤ p.offset)

-- the parameters are all in their ranges, as far as they can be checked without the JSON text
pub record AreParameters2 (p : Seal2) : Type 0 where
  pub size : is_header_size p.hdr_size ≡ true
  pub keys : FitKeys p
  pub texts : FitTexts p
  pub min_digest_iterations : 1 ≤ p.digest_iterations
  pub plain : FitsPlain (bytes_of p.sector_size) (length p.plain.now)
  pub slots : All (FitsSlot2 (length p.key.now)) p.slots.now
  pub distinct : AreDistinct (λ (slot : Slot2). slot.number) p.slots.now
  pub offset : FitsOffset p

-- ---- what the types of the parameters guarantee for their values

-- for a key slot
pub record IsTypedSlot2 (slot : Slot2) : Type 0 where
  pub iterations : slot.iterations < 2 ^ 32
  pub salt : IsBytes slot.salt
  pub random : IsBytes slot.random.now

-- for a volume of LUKS2
pub record AreTyped2 (p : Seal2) : Type 0 where
  pub primary_salt : length p.primary_salt ≡ 64
  pub secondary_salt : length p.secondary_salt ≡ 64
  pub key : IsBytes p.key.now
  pub iv_tweak : p.iv_tweak < 2 ^ 64
  pub digest_salt : IsBytes p.digest_salt
  pub digest_iterations : p.digest_iterations < 2 ^ 32
  pub slots : All IsTypedSlot2 p.slots.now
  pub plain : IsBytes p.plain.now

-- the key slots by their numbers, and the passphrase of each
abbrev pub passphrases2_of : Seal2 → List (ℕ × List ℕ)
passphrases2_of p = map (λ slot. (slot.number, slot.passphrase.now)) p.slots.now
