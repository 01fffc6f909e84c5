-- The expanded keys of a sector cipher. They are plain numbers, so that a struct may also hold others.
use Rattle.std.specs.Prelude.{ℕ, List}
use Rattle.sha2.specs.Sha256.{sha256}
use Rattle.luks_aes.specs.KeySchedule.{IsScheduleOf}
use Rattle.luks_aes.specs.declared.key_schedule.KeySchedule.{KeySchedule}
use Rattle.luks_aes.specs.RoundKeys.{IsBatchKey}
use Rattle.luks_aes.specs.declared.batch.round_keys.RoundKeys.{RoundKeys}
use Rattle.luks_cipher.specs.Xts.{data_key, tweak_key}
use Rattle.luks_cipher.specs.declared.expanded.ExpandedKeys.{ExpandedKeys}
use Rattle.luks_cipher.specs.declared.mode.Mode.{Mode}
use Rattle.luks_cipher.specs.declared.mode.Mode.TheVariants.{XtsPlain64, XtsPlain, CbcEssivSha256, CbcPlain64}

-- those of XTS: the halves of the key, for the data and for the tweaks (IEEE 1619, 5.3.1)
pub record AreXtsKeys (key : List ℕ) (data' : RoundKeys) (number : KeySchedule) : Type 0 where
  pub first : IsBatchKey (data_key key) data'
  pub second : IsScheduleOf (tweak_key key) number

-- those of CBC with essiv: the key, and its digest for the IVs
pub record AreEssivKeys (key : List ℕ) (data' : RoundKeys) (number : KeySchedule) : Type 0 where
  pub whole : IsBatchKey key data'
  pub digest : IsScheduleOf (sha256 key) number

-- the round keys for the data and the key schedule for unit numbers are those of this key in this mode
abbrev pub AreKeysOf : List ℕ → Mode → RoundKeys → KeySchedule → Type 0
AreKeysOf key XtsPlain64 data' number = AreXtsKeys key data' number
AreKeysOf key XtsPlain data' number = AreXtsKeys key data' number
AreKeysOf key CbcEssivSha256 data' number = AreEssivKeys key data' number
AreKeysOf key CbcPlain64 data' number = IsBatchKey key data'

-- the struct holds the keys of the cipher of this mode and key
pub record AreExpanded (key : List ℕ) (mode : Mode) (keys : ExpandedKeys) : Type 0 where
  pub are : AreKeysOf key mode keys.data keys.iv_or_tweak
