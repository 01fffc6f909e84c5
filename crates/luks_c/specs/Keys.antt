-- What `luksrd_check_key` and `luksrd_open_by_key` answer: a known volume key compared with a header.
use Rattle.std.specs.Prelude.{ℕ, ◌≡◌, ◌≢◌, ◌==◌, Bool, false, true, List, Ok, Err, if◌then◌else◌, length}
use Rattle.luks_cipher.specs.Sector.{is_mode_key_length}
use Rattle.luks_format.specs.declared.segment.Segment.{Segment}
use Rattle.luks_open.specs.Location.{reader_for}
use Rattle.luks_open.specs.Volume.{HasSegmentBy}
use Rattle.luks_access.specs.Keys.{KeyCheckFault, key_check_of}
use Rattle.luks_open.specs.Fault.{aborts_opening, is_read_failure}
use Rattle.luks_open.specs.declared.fault.VolumeFault.{VolumeFault}
use Rattle.luks_open.specs.declared.volume_key.KeyCheck.{KeyCheck}
use Rattle.luks_open.specs.declared.volume_key.KeyCheck.TheVariants.{Matches, Differs, NoDigest}
use Rattle.luks_report.specs.Faults.{message_for_volume}
use Rattle.luks_c.specs.Stored.{BeginsAs, FilledBy, IsCleared, StoresCode, StoresMessage, code_for}
use Rattle.luks_c.specs.Stored.{is_of_this_version, limit_in, location_in}
use Rattle.luks_c.specs.declared.message.LuksrdMessage.{LuksrdMessage}
use Rattle.luks_c.specs.declared.options.LuksrdOptions.{LuksrdOptions}
use Rattle.luks_c.specs.declared.volume.LuksrdVolume.{LuksrdVolume}

-- the options name a key slot, which is not looked at here, or are of another version
abbrev pub are_bad_for_a_key : LuksrdOptions → Bool
are_bad_for_a_key c = if is_of_this_version c then (if c.has_key_slot == 0 then false else true) else true

-- the number of what comparing gives, in `enum luksrd_code`
abbrev pub check_code : KeyCheck → ℕ
check_code Matches = 0
check_code Differs = 18
check_code NoDigest = 19

-- a key was compared: with the header of each image that starts with these bytes, comparing gives this
pub record ComparesKey (c : LuksrdOptions) (header key : List ℕ) (code : ℕ) (message : LuksrdMessage) : Type 0 where
  pub check : KeyCheck
  pub is_code : code ≡ check_code check
  pub says : StoresCode message code
  pub gives : (image : List ℕ) → BeginsAs image header
      → key_check_of (location_in c) (limit_in c) image key ≡ Ok check

-- a key was not compared: the message is that of `luksCat` for the header of each image that starts with these bytes,
-- or memory ran out
pub record RefusesKey (c : LuksrdOptions) (header key : List ℕ) (code : ℕ) (message : LuksrdMessage) : Type 0 where
  pub fault : VolumeFault
  pub is_code : code ≡ code_for (message_for_volume fault)
  pub says : StoresMessage message (message_for_volume fault)
  pub only : KeyCheckFault fault
  pub read : is_read_failure fault ≡ false
  pub gives : aborts_opening fault ≡ false → (image : List ℕ) → BeginsAs image header
      → key_check_of (location_in c) (limit_in c) image key ≡ Err fault

-- the code is one of a comparison
abbrev pub is_compared : ℕ → Bool
is_compared code = if code == 0 then true else if code == 18 then true else code == 19

-- what comparing a key answers
pub record AnswersComparing (c : LuksrdOptions) (header key : List ℕ) (code : ℕ) (message : LuksrdMessage) : Type 0
  where
    pub compares : is_compared code ≡ true → ComparesKey c header key code message
    pub refuses : is_compared code ≡ false → code ≢ 15 → RefusesKey c header key code message
    -- bad options have the code 15, and nothing else has
    pub bad : are_bad_for_a_key c ≡ true → (code ≡ 15) × StoresCode message 15
    pub only_bad : code ≡ 15 → are_bad_for_a_key c ≡ true

-- ---- opening by a key

-- the segment of the header of each image that starts with these bytes; the key is one of its cipher
pub record IsOfKey (c : LuksrdOptions) (header key : List ℕ) (segment : Segment) : Type 0 where
  pub of_header : (image : List ℕ) → BeginsAs image header → HasSegmentBy (reader_for (location_in c)) image segment
  pub key_length : is_mode_key_length segment.mode (length key) ≡ true

-- the struct holds this key and its segment, and the number 0 in place of that of a key slot
pub record HoldsKey (c : LuksrdOptions) (header key : List ℕ) (volume : LuksrdVolume) : Type 0 where
  pub segment : Segment
  pub is : IsOfKey c header key segment
  pub filled : FilledBy volume segment 0 key

-- what opening a volume by its key answers: what comparing the key answers, and the volume if the key matches
pub record AnswersOpeningByKey (c : LuksrdOptions) (header key : List ℕ) (code : ℕ) (volume : LuksrdVolume)
    (message : LuksrdMessage) : Type 0 where
  pub compares : AnswersComparing c header key code message
  pub opens : code ≡ 0 → HoldsKey c header key volume
  pub cleared : code ≢ 0 → IsCleared volume
