-- The parameters of a volume of LUKS1: their ranges, what their types guarantee, and the passphrases of the key slots.
use Rattle.std.specs.Prelude.{◌≡◌, ℕ, ◌+◌, ◌-◌, ◌*◌, ◌/◌, ◌≤◌, All, length, ◌<◌, ◌^◌, List, map}
use Rattle.luks_volume.specs.Ranges.{AreDistinct, FitsKey, FitsPlain, FitsText}
use Rattle.luks_aes.specs.Bytes.{IsBytes}
pub use Rattle.luks_volume.specs.declared.parameters.Seal1.{Seal1}
pub use Rattle.luks_volume.specs.declared.parameters.Slot1.{Slot1}

-- the sectors of 512 bytes that a slot's stripes need, rounded up to a multiple of 8
abbrev pub area_sectors : ℕ → ℕ → ℕ
area_sectors key stripes = (key * stripes + 4095) / 4096 * 8

-- the counts are in their ranges, and the payload begins after the areas of eight slots
abbrev pub FitsCounts1 : Seal1 → Type 0
FitsCounts1 p = (1 ≤ p.stripes) × (p.stripes ≤ 4000) × (1 ≤ p.digest_iterations)
    × (8 + 8 * area_sectors (length p.key.now) p.stripes ≤ p.payload_sectors) × (p.payload_sectors ≤ 65536)

-- the slot fits a volume whose slots have this many random bytes each
abbrev pub FitsSlot1 : ℕ → Slot1 → Type 0
FitsSlot1 random slot = (slot.number ≤ 7) × (1 ≤ slot.iterations) × (length slot.random.now ≡ random)

-- the parameters are all in their ranges
pub record AreParameters1 (p : Seal1) : Type 0 where
  pub key : FitsKey p.mode (length p.key.now)
  pub counts : FitsCounts1 p
  pub uuid : FitsText 40 p.uuid.now
  pub plain : FitsPlain 512 (length p.plain.now)
  pub slots : All (FitsSlot1 ((p.stripes - 1) * length p.key.now)) p.slots.now
  pub distinct : AreDistinct (λ (slot : Slot1). slot.number) p.slots.now

-- ---- what the types of the parameters guarantee for their values

-- for a key slot
pub record IsTypedSlot1 (slot : Slot1) : Type 0 where
  pub random : IsBytes slot.random.now
  pub salt : length slot.salt ≡ 32
  pub iterations : slot.iterations < 2 ^ 32

-- for all parameters
pub record AreTyped1 (p : Seal1) : Type 0 where
  pub key : IsBytes p.key.now
  pub plain : IsBytes p.plain.now
  pub salt : length p.digest_salt ≡ 32
  pub iterations : p.digest_iterations < 2 ^ 32
  pub slots : All IsTypedSlot1 p.slots.now

-- the key slots by their numbers, and the passphrase of each
abbrev pub passphrases1_of : Seal1 → List (ℕ × List ℕ)
passphrases1_of p = map (λ slot. (slot.number, slot.passphrase.now)) p.slots.now
