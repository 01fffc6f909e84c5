-- The codes and the structs of `c/luksrd.h`, field by field, how a volume is read back, and what the functions answer.
use Rattle.std.specs.Prelude.{ℕ, ◌≡◌, ◌-◌, ◌==◌, if◌then◌else◌, drop, length, replicate, take, Option, None, Some, []}
use Rattle.std.specs.Prelude.{Bool, List, ◌&&◌, bytes_eq, codes, false, nat_lt, true}
use Rattle.std.specs.Prelude.{unwrap_or, ◌≢◌, ◌+◌, ◌*◌, ◌/◌, ◌%◌, ◌^◌, ◌≤◌, Result, Ok}
use Rattle.std.specs.Prelude.{Err}
use Rattle.luks_access.specs.declared.options.Options.{Options}
use Rattle.luks_open.specs.declared.unlocked.UnlockedVolume.{UnlockedVolume}
use Rattle.luks_cipher.specs.Sector.{Cipher}
use Rattle.luks_cipher.specs.declared.mode.Mode.{Mode}
use Rattle.luks_cipher.specs.declared.mode.Mode.TheVariants.{XtsPlain64, XtsPlain, CbcEssivSha256, CbcPlain64}
use Rattle.luks_format.specs.Segment.{segment_from}
use Rattle.luks_format.specs.SectorSize.{bytes_of, sector_size_with}
use Rattle.luks_format.specs.declared.derivation.Argon2Limits.{Argon2Limits}
use Rattle.luks_format.specs.declared.sector_size.SectorSize.{SectorSize}
use Rattle.luks_format.specs.declared.segment.Segment.{Segment}
use Rattle.luks_c.specs.declared.volume.LuksrdVolume.{LuksrdVolume}
use Rattle.luks_report.specs.Texts.{argon2_memory_text, line_of, status_of}
use Rattle.luks_report.specs.declared.message.Message.{Message}
use Rattle.luks_report.specs.declared.message.Message.TheVariants.{Done, NotLuks, Cut, Json, SegmentRefused, NoSuchSlot}
use Rattle.luks_report.specs.declared.message.Message.TheVariants.{SlotDisabled, SlotSkipped, NothingTried, NoKey}
use Rattle.luks_report.specs.declared.message.Message.TheVariants.{KeyFileLength, CutBeforePayload, Tail, Short}
use Rattle.luks_open.specs.declared.location.HeaderLocation.{HeaderLocation}
use Rattle.luks_open.specs.declared.location.HeaderLocation.TheVariants.{Attached, Detached}
use Rattle.luks_c.specs.declared.message.LuksrdMessage.{LuksrdMessage}
use Rattle.luks_c.specs.declared.options.LuksrdOptions.{LuksrdOptions}
use Rattle.luks_access.specs.Opens.{Opens, Refuses}
use Rattle.luks_access.specs.Sectors.{plain_in}
use Rattle.luks_format.specs.Area.{max_loaded_len}
use Rattle.luks_open.specs.Fault.{aborts_opening, is_read_failure}
use Rattle.luks_format.specs.declared.fault.HeaderFault.TheVariants as H
use Rattle.luks_open.specs.declared.fault.VolumeFault.{VolumeFault}
use Rattle.luks_open.specs.declared.fault.VolumeFault.TheVariants.{Argon2Memory}
use Rattle.luks_report.specs.Faults.{message_for_payload, message_for_volume}
use Rattle.luks_report.specs.HeaderFault.{fault_sentence}
use Rattle.luks_payload.specs.declared.fault.PayloadFault.{PayloadFault}
use Rattle.luks_payload.specs.declared.fault.PayloadFault.TheVariants.{Tail as FaultTail, Short as FaultShort}
use Rattle.luks_payload.specs.declared.fault.PayloadFault.TheVariants.{CutBeforePayload as FaultCut}
use Rattle.luks_payload.specs.Plain.{ending_of_len, payload_bytes}
use Rattle.luks_payload.specs.declared.state.Step.{Step}

-- the number of a message, in `enum luksrd_code`
abbrev pub code_for : Message → ℕ
code_for Done = 0
code_for NotLuks = 1
code_for Cut = 2
code_for Json = 3
code_for (SegmentRefused _) = 4
code_for (NoSuchSlot _) = 5
code_for (SlotDisabled _) = 6
code_for (SlotSkipped _ _) = 7
code_for (NothingTried _) = 8
code_for KeyFileLength = 9
code_for (NoKey _) = 10
code_for CutBeforePayload = 12
code_for (Tail _) = 13
code_for (Short _) = 14
code_for _ = 11

-- the exit status and the sentence of a number alone
abbrev pub sentence_for : ℕ → ℕ × List ℕ
sentence_for code =
    if code == 0 then (0, [])
    else if code == 1 then (4, fault_sentence H.NotLuks)
    else if code == 2 then (4, fault_sentence H.Cut)
    else if code == 3 then (4, fault_sentence H.Json)
    else if code == 4 then (1, codes "luksrd: segment refused")
    else if code == 5 then (1, codes "luksrd: key slot is not there")
    else if code == 6 then (1, codes "luksrd: key slot is disabled")
    else if code == 7 then (1, codes "luksrd: key slot is skipped")
    else if code == 8 then (1, codes "luksrd: no key slot can be tried")
    else if code == 9 then (1, codes "luksrd: key file is longer than 8388608 bytes")
    else if code == 10 then (2, codes "luksrd: no key opens the volume")
    else if code == 11 then (3, fault_sentence H.Memory)
    else if code == 12 then (4, codes "luksrd: image ends before the payload")
    else if code == 13 then (4, codes "luksrd: image ends inside a sector")
    else if code == 14 then (4, codes "luksrd: image ends before the segment does")
    else if code == 15 then (1, codes "luksrd: key slot number is above 31, or options of another version")
    else if code == 16 then (1, codes "luksrd: not an open volume")
    else if code == 17 then (1, codes "luksrd: not whole sectors, or not a range of the plaintext")
    else if code == 18 then (2, codes "luksrd: volume key does not match the digest in the header")
    else if code == 19 then (1, codes "luksrd: no digest to compare the volume key with")
    else (1, codes "luksrd: no such code")

-- the struct holds this status, all of this text, and zeros after it, at least one
pub record StoresText (c : LuksrdMessage) (status : ℕ) (text : List ℕ) : Type 0 where
  pub is_status : c.status ≡ status
  pub is_len : c.len ≡ length text
  pub fits : length text ≤ 1015
  pub is_text : take c.len c.text ≡ text
  pub is_rest : drop c.len c.text ≡ replicate (1016 - c.len) 0

-- the struct holds this message: its status, and its line without the newline
abbrev pub StoresMessage : LuksrdMessage → Message → Type 0
StoresMessage c message =
    StoresText c (status_of message) (take (length (line_of message) - 1) (line_of message))

-- the struct holds the status and the sentence of this code
abbrev pub StoresCode : LuksrdMessage → ℕ → Type 0
StoresCode c code = StoresText c (sentence_for code).0 (sentence_for code).1

-- the struct holds the message for this fault; if it is memory that Argon2 needs, with the key slot and the size
abbrev pub StoresFault : LuksrdMessage → VolumeFault → Type 0
StoresFault c (Argon2Memory slot memory) = StoresText c 3 (argon2_memory_text slot memory)
StoresFault c fault = StoresMessage c (message_for_volume fault)

-- the number of the key slot that is named, if one is
abbrev pub named_in : LuksrdOptions → Option ℕ
named_in c = if c.has_key_slot == 0 then None else Some c.key_slot

-- the options name a key slot by a number above 31
abbrev pub names_no_slot : LuksrdOptions → Bool
names_no_slot c = if c.has_key_slot == 0 then false else nat_lt 31 c.key_slot

-- the struct has its size, and zeros in the reserved part
abbrev pub is_of_this_version : LuksrdOptions → Bool
is_of_this_version c = c.size == 64 && bytes_eq c.reserved (replicate 32 0)

-- the options name a key slot by a number above 31, or are of another version
abbrev pub are_bad : LuksrdOptions → Bool
are_bad c = if is_of_this_version c then names_no_slot c else true

-- the limit on iterations; 0 means no limit
abbrev pub limit_in : LuksrdOptions → Option ℕ
limit_in c = if c.max_iterations == 0 then None else Some c.max_iterations

-- the number, or this one if it is 0
abbrev pub or_default : ℕ → ℕ → ℕ
or_default number default = if number == 0 then default else number

-- what Argon2 may cost for a key slot: by default 4 GiB of memory, of which all passes fill 64 GiB
abbrev pub argon2_limits_in : LuksrdOptions → Option Argon2Limits
argon2_limits_in c = if c.no_argon2 == 0 then Some record {
  memory_kib = or_default c.argon2_memory_kib 4194304;
  fill_kib = or_default c.argon2_fill_mib 65536 * 1024;
} else None

-- where the header is
abbrev pub location_in : LuksrdOptions → HeaderLocation
location_in c = if c.detached == 0 then Attached else Detached

-- the struct has these options
pub record AreOptions (c : LuksrdOptions) (options : Options) : Type 0 where
  pub location : options.location ≡ location_in c
  pub named : options.slots.named ≡ named_in c
  pub max_iterations : options.slots.max_iterations ≡ limit_in c
  pub argon2 : options.argon2 ≡ argon2_limits_in c

-- the numbers of `enum luksrd_mode`
abbrev pub mode_number : Mode → ℕ
mode_number XtsPlain64 = 1
mode_number XtsPlain = 2
mode_number CbcEssivSha256 = 3
mode_number CbcPlain64 = 4

-- whether the payload's length is fixed
abbrev pub has_size_of : Option ℕ → ℕ
has_size_of None = 0
has_size_of (Some size) = 1

-- the struct holds this segment, this number of a key slot and this volume key
pub record StoresBy (c : LuksrdVolume) (segment : Segment) (slot : ℕ) (key : List ℕ) : Type 0 where
  pub offset : c.offset ≡ segment.offset
  pub has_size : c.has_size ≡ has_size_of segment.size
  pub size : c.size ≡ unwrap_or segment.size 0
  pub iv_tweak : c.iv_tweak ≡ segment.iv_tweak
  pub sector_size : c.sector_size ≡ bytes_of segment.sector_size
  pub mode : c.mode ≡ mode_number segment.mode
  pub key_slot : c.key_slot ≡ slot
  pub key_bytes : take c.key_size c.key ≡ key

-- the same, with zeros in all bytes that these do not need
pub record FilledBy (c : LuksrdVolume) (segment : Segment) (slot : ℕ) (key : List ℕ) : Type 0 where
  pub stores : StoresBy c segment slot key
  pub key_size : c.key_size ≡ length key
  pub rest : drop c.key_size c.key ≡ replicate (64 - c.key_size) 0
  pub reserved : c.reserved ≡ 0

-- the struct holds this volume
abbrev pub Stores : LuksrdVolume → UnlockedVolume → Type 0
Stores c v = StoresBy c v.segment v.slot v.key

-- the same, with zeros in all bytes that the volume does not need
abbrev pub Filled : LuksrdVolume → UnlockedVolume → Type 0
Filled c v = FilledBy c v.segment v.slot v.key

-- the struct holds no volume: all of it is zero
pub record IsCleared (c : LuksrdVolume) : Type 0 where
  pub offset : c.offset ≡ 0
  pub size : c.size ≡ 0
  pub iv_tweak : c.iv_tweak ≡ 0
  pub has_size : c.has_size ≡ 0
  pub sector_size : c.sector_size ≡ 0
  pub mode : c.mode ≡ 0
  pub key_size : c.key_size ≡ 0
  pub key_slot : c.key_slot ≡ 0
  pub reserved : c.reserved ≡ 0
  pub key : c.key ≡ replicate 64 0

-- ---- reading a volume back

abbrev pub mode_in : ℕ → Option Mode
mode_in n =
    if n == 1 then Some XtsPlain64 else if n == 2 then Some XtsPlain else if n == 3 then Some CbcEssivSha256
    else if n == 4 then Some CbcPlain64 else None

-- the payload's length, if it is fixed: `has_size` is 0 or 1, and says whether it is
abbrev pub size_stored_in : LuksrdVolume → Option (Option ℕ)
size_stored_in c = if c.has_size == 0 then Some None else if c.has_size == 1 then Some (Some c.size) else None

-- the segment of the payload
abbrev pub segment_in : LuksrdVolume → Option Segment
segment_in c =
    segment_from (Some c.offset) (size_stored_in c) (Some c.iv_tweak) (sector_size_with c.sector_size) (mode_in c.mode)

-- the volume key
abbrev pub key_in : LuksrdVolume → List ℕ
key_in c = take c.key_size c.key

-- the cipher, in this mode
abbrev pub cipher_in : LuksrdVolume → Mode → Cipher
cipher_in c mode = (mode, key_in c)

-- the length of the plaintext in an image of `image_len` bytes: all whole sectors of this size, of a payload that has
-- this length if it is fixed. 0 if there is no sector size, or the struct does not say whether the length is fixed
abbrev pub plaintext_len_by : Option SectorSize → Option (Option ℕ) → LuksrdVolume → ℕ → ℕ
plaintext_len_by None fixed c image_len = 0
plaintext_len_by (Some sector_size) None c image_len = 0
plaintext_len_by (Some sector_size) (Some size) c image_len =
    payload_bytes size (image_len - c.offset) / bytes_of sector_size * bytes_of sector_size

-- the same by the struct's own `sector_size`, `has_size` and `size`, whatever else the struct holds
abbrev pub plaintext_len_in : LuksrdVolume → ℕ → ℕ
plaintext_len_in c = plaintext_len_by (sector_size_with c.sector_size) (size_stored_in c) c

-- how a payload, which has this length if it is fixed, ends in an image of `image_len` bytes, in sectors of this size
abbrev pub ending_by : SectorSize → Option ℕ → LuksrdVolume → ℕ → Result Step PayloadFault
ending_by sector_size size c image_len =
    if nat_lt image_len c.offset then Err FaultCut
    else ending_of_len size (bytes_of sector_size) (image_len - c.offset)

-- ---- the results of the functions for C

-- the image starts with these bytes, as far as a header area can reach: both have the same first 33,554,432 bytes, or
-- are the same if there are fewer
abbrev pub BeginsAs : List ℕ → List ℕ → Type 0
BeginsAs image header = take max_loaded_len image ≡ take max_loaded_len header

-- a volume was opened: the struct holds it, and with these options the same one opens for each image that starts with
-- these bytes, for `luksCat` if Argon2 is not used
pub record Opened (c : LuksrdOptions) (header pass : List ℕ) (volume : LuksrdVolume) (message : LuksrdMessage) : Type 0
  where
    pub options : Options
    pub are : AreOptions c options
    pub opened : UnlockedVolume
    pub filled : Filled volume opened
    pub opens : (image : List ℕ) → BeginsAs image header → Opens options image pass opened
    pub says : StoresMessage message Done

-- a volume was refused: for each image that starts with these bytes, opening ends with the fault that the message says,
-- for `luksCat` if Argon2 is not used; or memory ran out
pub record Refused (c : LuksrdOptions) (header pass : List ℕ) (code : ℕ) (message : LuksrdMessage) : Type 0 where
  pub options : Options
  pub are : AreOptions c options
  pub fault : VolumeFault
  pub is_code : code ≡ code_for (message_for_volume fault)
  pub says : StoresFault message fault
  pub read : is_read_failure fault ≡ false
  pub refuses : aborts_opening fault ≡ false → (image : List ℕ) → BeginsAs image header
      → Refuses options image pass fault

-- what opening a volume answers
pub record AnswersOpening (c : LuksrdOptions) (header pass : List ℕ) (code : ℕ) (volume : LuksrdVolume)
    (message : LuksrdMessage) : Type 0 where
  pub opens : code ≡ 0 → Opened c header pass volume message
  pub refuses : code ≢ 0 → code ≢ 15 → Refused c header pass code message
  pub cleared : code ≢ 0 → IsCleared volume
  -- bad options have the code 15, and nothing else has
  pub bad : are_bad c ≡ true → (code ≡ 15) × StoresCode message 15
  pub only_bad : code ≡ 15 → are_bad c ≡ true

-- the number of bytes in an ending's message
abbrev pub fault_bytes : PayloadFault → ℕ
fault_bytes (FaultTail bytes) = bytes
fault_bytes (FaultShort bytes) = bytes
fault_bytes _ = 0

-- the result is this ending: its code, its number of bytes and its message
abbrev pub EndsAs : Result Step PayloadFault → ℕ → ℕ → LuksrdMessage → Type 0
EndsAs (Ok _) code bytes message = (code ≡ 0) × (bytes ≡ 0) × StoresMessage message Done
EndsAs (Err fault) code bytes message =
    (code ≡ code_for (message_for_payload fault)) × (bytes ≡ fault_bytes fault)
    × StoresMessage message (message_for_payload fault)

-- the result is the ending of the payload in an image of `image_len` bytes, if there is a sector size, and the struct
-- says whether the payload's length is fixed; otherwise its code is 16
abbrev pub EndsBy : Option SectorSize → Option (Option ℕ) → LuksrdVolume → ℕ → ℕ → ℕ → LuksrdMessage → Type 0
EndsBy None fixed c image_len code bytes message = (code ≡ 16) × (bytes ≡ 0) × StoresCode message 16
EndsBy (Some sector_size) None c image_len code bytes message = (code ≡ 16) × (bytes ≡ 0) × StoresCode message 16
EndsBy (Some sector_size) (Some size) c image_len code bytes message =
    EndsAs (ending_by sector_size size c image_len) code bytes message

-- the same by the struct's own `sector_size`, `has_size` and `size`, whatever else the struct holds
abbrev pub EndsIn : LuksrdVolume → ℕ → ℕ → ℕ → LuksrdMessage → Type 0
EndsIn c = EndsBy (sector_size_with c.sector_size) (size_stored_in c) c

-- whole sectors were decrypted in place, from sector `first` on, by the segment and the cipher that the struct holds
abbrev pub DecryptsAs : LuksrdVolume → ℕ → List ℕ → List ℕ → Type 0
DecryptsAs c first old new =
    (segment : Segment) → segment_in c ≡ Some segment → new ≡ plain_in segment (cipher_in c segment.mode) first old

-- `len` bytes are whole sectors of this size, and the number after that of the last one is below 2^64
abbrev pub is_range : SectorSize → ℕ → ℕ → Bool
is_range size first len = if len % bytes_of size == 0 then nat_lt (first + len / bytes_of size) (2 ^ 64) else false

-- the code of decrypting `len` bytes from sector `first` on, in sectors of this size
abbrev pub range_code : SectorSize → ℕ → ℕ → ℕ
range_code size first len = if is_range size first len then 0 else 17

-- the same for this segment, if there is one
abbrev pub segment_code : Option Segment → ℕ → ℕ → ℕ
segment_code None first len = 16
segment_code (Some s) first len = range_code s.sector_size first len

-- the code of decrypting `len` bytes from sector `first` on, whatever the struct holds
abbrev pub decrypt_code : LuksrdVolume → ℕ → ℕ → ℕ
decrypt_code c first len = segment_code (segment_in c) first len
