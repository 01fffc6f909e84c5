-- The outcomes of the commands that open volumes: first the volume that an image's header describes, then how opening
-- it ends, then the outcome of a run. Then what finding a volume and trying its key slots leave in the device.
use Rattle.std.specs.Prelude.{ℕ, ◌+◌, List, length, max, nat_lt, if◌then◌else◌, Option, Result, Ok, Err, ◌≡◌, take}
use Rattle.std.specs.Prelude.{◌<◌, ◌≤◌, ◌⊎◌, Some, IsOk, Bool, false, true, MatchBool, drop, [], sum_by}
use Rattle.std.specs.Result.{result_map_both}
use Rattle.luks_header.specs.Header.{HasHeader2, header_read_len, header_of, probe_len}
use Rattle.luks_header.specs.HeaderSegment.{segment_of}
use Rattle.luks_header.specs.declared.header.Header.{Header}
use Rattle.luks_format.specs.Area.{IsStart}
use Rattle.luks_format.specs.Header1.{is_luks1}
use Rattle.luks_format.specs.declared.fault.HeaderFault.{HeaderFault}
use Rattle.luks_format.specs.declared.fault.HeaderFault.TheVariants.{Read as HeaderRead, Memory as HeaderMemory}
use Rattle.luks_format.specs.declared.refusal.SegmentFault.{SegmentFault}
use Rattle.luks_format.specs.declared.segment.Segment.{Segment}
use Rattle.luks_open.specs.Opening.{OrderModel, StopsAfter, blocks_filled, blocks_of, evaluations_of}
use Rattle.luks_open.specs.Opening.{key_material_end}
use Rattle.luks_open.specs.Opening.{opening_of, order_within, work_of}
use Rattle.luks_open.specs.declared.fault.OpenFault.TheVariants.{Memory, NoKey as NoOpening}
use Rattle.luks_open.specs.declared.fault.PassphraseFault.{PassphraseFault}
use Rattle.luks_open.specs.declared.fault.PassphraseFault.TheVariants.{TooLong}
use Rattle.luks_open.specs.declared.fault.VolumeFault.{VolumeFault}
use Rattle.luks_open.specs.declared.fault.VolumeFault.TheVariants as V
use Rattle.luks_open.specs.Fault.{aborts_opening, has_fault, is_read_failure, is_untried}
use Rattle.luks_open.specs.declared.allowed.AllowedSlots.{AllowedSlots}
use Rattle.luks_open.specs.declared.opening.Opened.{Opened}
use Rattle.luks_open.specs.KeyFile.{max_key_file_len}
use Rattle.luks_open.specs.Location.{HeaderReader, LoadedFrom, reader_for}
use Rattle.luks_io.specs.Devices.{ConsumedExactly, ConsumedAtMost, IfKnown}
use Rattle.luks_io.specs.declared.counts.ReadCounts.{ReadCounts}
use Rattle.luks_open.specs.declared.location.HeaderLocation.{HeaderLocation}
use Rattle.luks_open.specs.declared.found.FoundVolume.{FoundVolume}
use Rattle.luks_kdf.specs.Pbkdf2.{capped}
use Rattle.luks_open.specs.declared.unlocked.UnlockedVolume.{UnlockedVolume}

-- ---- volumes and outcomes

-- a volume: its header, its segment, and the key slots to be tried
pub record Volume : Type 0 where
  pub header : Header
  pub segment : Segment
  pub order : OrderModel

-- the volume with this segment
abbrev pub volume_in_segment : AllowedSlots → Header → Result Segment SegmentFault → Result Volume VolumeFault
volume_in_segment slots header (Ok segment) = result_map_both
    (λ order. record { header = header; segment = segment; order = order })
    V.Slots (order_within header slots.named slots.limits)
volume_in_segment slots header (Err fault) = Err (V.Segment fault)

-- the volume with this header, by the key slots that may be tried
abbrev pub volume_in_header : AllowedSlots → Result Header HeaderFault → Result Volume VolumeFault
volume_in_header slots (Ok header) = volume_in_segment slots header (segment_of header)
volume_in_header slots (Err fault) = Err (V.Header fault)

-- the volume whose header is read in this way, or the fault if there is none: of its header first, then of its segment,
-- then of the order of its key slots
unfoldable pub volume_by : HeaderReader → AllowedSlots → List ℕ → Result Volume VolumeFault
volume_by read slots image = volume_in_header slots (read image)

-- the volume of an image
abbrev pub volume_of : AllowedSlots → List ℕ → Result Volume VolumeFault
volume_of = volume_by header_of

-- the number of bytes of the image that are consumed to open the volume: up to the end of those read for the header or
-- of the last key material of the slots to be tried, whichever comes last
abbrev pub unlock_read_len : List ℕ → Volume → ℕ
unlock_read_len image volume = max (header_read_len image) (key_material_end volume.order.entries)

-- how opening a volume ends: with its payload's segment and the key slot that opens, or with a fault. How many bytes it
-- consumes, of the image or the header's file, and of the passphrase
pub record VolumeOpening : Type 0 where
  pub result : Result (Segment × Opened) VolumeFault
  pub consumed : ℕ
  pub secret_consumed : ℕ

-- key slots can be tried: opening ends with a volume, or with a fault that comes only if there are such key slots
abbrev pub CanBeTried : {T : Type 0} → Result T VolumeFault → Type 0
CanBeTried (Ok _) = Unit {0}
CanBeTried (Err (V.Passphrase _)) = Unit {0}
CanBeTried (Err V.KeyAreaCut) = Unit {0}
CanBeTried (Err (V.Slots (NoOpening _))) = Unit {0}
CanBeTried _ = ⊥

-- opening ends with this fault, after this many bytes of the image and of the passphrase
abbrev pub failed_opening : VolumeFault → ℕ → ℕ → VolumeOpening
failed_opening fault read secret_read = record { result = Err fault; consumed = read; secret_consumed = secret_read }

-- a volume was found: the passphrase is read whole, then the image up to the end of the last key material, and the key
-- slots are tried
unfoldable pub opening_found : Volume → List ℕ → List ℕ → VolumeOpening
opening_found volume image secret =
    if nat_lt max_key_file_len (length secret)
    then failed_opening (V.Passphrase TooLong) (header_read_len image) (max_key_file_len + 1)
    else if nat_lt (length image) (key_material_end volume.order.entries)
    then failed_opening V.KeyAreaCut (length image) (length secret) else record {
      result = result_map_both (λ opened. (volume.segment, opened)) V.Slots (opening_of volume.order image secret);
      consumed = unlock_read_len image volume;
      secret_consumed = length secret;
    }

-- the same, whether or not a volume was found
abbrev pub opening_after : List ℕ → List ℕ → Result Volume VolumeFault → VolumeOpening
opening_after image secret (Ok volume) = opening_found volume image secret
opening_after image secret (Err fault) = failed_opening fault (header_read_len image) 0

-- how opening the volume of an image ends, under a passphrase, if its header is read in this way
unfoldable pub volume_opening_by : HeaderReader → AllowedSlots → List ℕ → List ℕ → VolumeOpening
volume_opening_by read slots image secret = opening_after image secret (volume_by read slots image)

-- ---- finding the volume that a header describes

-- the header that is read in this way has this segment
abbrev pub HasSegmentBy : HeaderReader → List ℕ → Segment → Type 0
HasSegmentBy read image segment = (header : Header) × (read image ≡ Ok header) × (segment_of header ≡ Ok segment)

-- exactly this many bytes were consumed; after an abort, at most this many
abbrev pub ConsumedUnless : Bool → List ℕ → Option (List ℕ) → ℕ → Type 0
ConsumedUnless aborted known left count =
    MatchBool aborted (ConsumedAtMost known left count) (ConsumedExactly known left count)

-- memory may run out after this many bytes of the image were consumed: none if it is LUKS1, and otherwise fewer than
-- the search for its header needs; all that are read for a binary LUKS2 header, before the tree of its JSON text; or
-- any, if it has a volume, whose key slots can be tried
abbrev pub MayRunOut : HeaderReader → AllowedSlots → List ℕ → ℕ → Type 0
MayRunOut read slots image count = ((count < probe_len image) × (is_luks1 image ≡ true → count ≡ 0))
    ⊎ ((HasHeader2 image × (count ≡ header_read_len image)) ⊎ IsOk (volume_by read slots image))

-- no volume whose header is read in this way was found, for this reason: a read failed, memory ran out, or the image
-- has none. No passphrase and no key area is read for that. Memory for key slots runs out only if some can be tried
pub record FindsNoVolume (read : HeaderReader) (slots : AllowedSlots) (image : List ℕ) (left : Option (List ℕ))
    (fault : VolumeFault) : Type 0 where
  pub none : aborts_opening fault ≡ false → volume_by read slots image ≡ Err fault
  pub memory : fault ≡ V.Slots Memory → IsOk (volume_by read slots image)
  pub ran_out : aborts_opening fault ≡ true → is_read_failure fault ≡ false → (count : ℕ)
      → ConsumedExactly image left count → MayRunOut read slots image count
  pub no_argon2 : (slot memory : ℕ) → fault ≡ V.Argon2Memory slot memory → ⊥
  pub consumed : ConsumedUnless (aborts_opening fault) image left (header_read_len image)

-- a volume has the segment of its header, and the order of its header's key slots
pub record MatchesHeader (slots : AllowedSlots) (volume : FoundVolume) : Type 0 where
  pub segment : segment_of volume.header ≡ Ok volume.segment
  pub order : order_within volume.header slots.named slots.limits ≡ Ok volume.order

-- a volume was found in this image: it has the header, its area has the bytes that are read for it, and those after
-- them remain
pub record FoundIn (location : HeaderLocation) (choice : AllowedSlots) (image : List ℕ) (volume : FoundVolume)
    (left : Option (List ℕ)) : Type 0 where
  pub slots : MatchesHeader choice volume
  pub header : reader_for location image ≡ Ok volume.header
  pub area : volume.area.bytes ≡ take (header_read_len image) image
  pub consumed : ConsumedExactly image left (header_read_len image)
  pub ended : volume.area.ended ≡ true → drop (header_read_len image) image ≡ []

-- a volume was found: its area has the bytes that were consumed and no more, and its header is the one read from them
pub record FindsVolume (location : HeaderLocation) (choice : AllowedSlots) (volume : FoundVolume)
    (before after : Option (List ℕ)) (counts counts' : ReadCounts) : Type 0 where
  pub slots : MatchesHeader choice volume
  pub of_area : reader_for location volume.area.bytes ≡ Ok volume.header
  pub area : length volume.area.bytes ≡ header_read_len volume.area.bytes
  pub found : IfKnown before (λ known. FoundIn location choice known volume after)
  pub loaded : LoadedFrom volume.area before after counts counts'

-- the volume that was found
abbrev pub described : FoundVolume → Volume
described volume = record { header = volume.header; segment = volume.segment; order = volume.order }

-- the fault is not one of the passphrase
abbrev pub NoPassphraseFault : {T : Type 0} → Result T VolumeFault → Type 0
NoPassphraseFault result = (fault : PassphraseFault) → result ≡ Err (V.Passphrase fault) → ⊥

-- ---- trying the key slots of a volume

-- the key slot that opened a volume, and the key that it gave
abbrev pub opened_of : UnlockedVolume → Opened
opened_of volume = record { slot = volume.slot; key = volume.key }

-- the segment of a volume and the key slot that opened it, or the fault
abbrev pub opened_result : Result UnlockedVolume VolumeFault → Result (Segment × Opened) VolumeFault
opened_result (Ok volume) = Ok (volume.segment, opened_of volume)
opened_result (Err fault) = Err fault

-- opening a volume ended as specified, with as many bytes of its image consumed, or was aborted. Memory for key slots
-- runs out only if some can be tried, and so does memory for Argon2
pub record OpeningMatches (opening : VolumeOpening) (image : List ℕ) (result : Result UnlockedVolume VolumeFault)
    (left : Option (List ℕ)) : Type 0 where
  pub answer : has_fault aborts_opening result ≡ false → opened_result result ≡ opening.result
  pub memory : result ≡ Err (V.Slots Memory) → CanBeTried opening.result
  pub argon2 : (slot memory : ℕ) → result ≡ Err (V.Argon2Memory slot memory) → CanBeTried opening.result
  pub consumed : ConsumedUnless (has_fault aborts_opening result) image left opening.consumed

-- the key slots of a volume were tried under a passphrase, with these bytes of its image loaded: the result is the
-- volume that they open, or their fault, or memory that Argon2 needs for one of them was refused. Otherwise not all key
-- material was loaded: the image ended before, a read failed, or memory ran out
abbrev pub TriesSlots : Volume → List ℕ → List ℕ → Result UnlockedVolume VolumeFault → Type 0
TriesSlots volume area pass (Ok opened) = (key_material_end volume.order.entries ≤ length area)
    × (opened.segment ≡ volume.segment) × (opening_of volume.order area pass ≡ Ok (opened_of opened))
TriesSlots volume area pass (Err (V.Slots fault)) = (key_material_end volume.order.entries ≤ length area)
    × (opening_of volume.order area pass ≡ Err fault)
TriesSlots volume area pass (Err (V.Argon2Memory slot memory)) = key_material_end volume.order.entries ≤ length area
TriesSlots volume area pass (Err V.KeyAreaCut) = length area < key_material_end volume.order.entries
TriesSlots volume area pass (Err (V.Header fault)) = (length area < key_material_end volume.order.entries)
    × (fault ≡ HeaderRead ⊎ fault ≡ HeaderMemory)
TriesSlots volume area pass _ = ⊥

-- for that, bytes of the image were consumed and appended to those already loaded, none of them after the end of the
-- last key material. If the image ended before that, all of it was consumed
pub record ConsumesMaterial (volume : FoundVolume) (area : List ℕ) (before after : Option (List ℕ))
    (result : Result UnlockedVolume VolumeFault) : Type 0 where
  pub start : (image : List ℕ) → IsStart image volume.area.bytes before → IsStart image area after
  pub kept : take (length volume.area.bytes) area ≡ volume.area.bytes
  pub within : length area ≤ max (length volume.area.bytes) (key_material_end volume.order.entries)
  pub cut : result ≡ Err V.KeyAreaCut → IfKnown before (λ known.
      (volume.area.ended ≡ true → known ≡ []) → after ≡ Some [])

-- if all key material is loaded, the key slots were tried, and the count of work was raised once by the evaluations of
-- HMAC that this costs; otherwise they were not tried, and the count is what it was
abbrev pub CountsTrials : OrderModel → List ℕ → List ℕ → Result UnlockedVolume VolumeFault → ℕ → ℕ → Type 0
CountsTrials order area pass result work work' =
    ((key_material_end order.entries ≤ length area) × (work' ≡ capped (work + work_of order area pass)))
    ⊎ ((length area < key_material_end order.entries) × (has_fault is_untried result ≡ true) × (work' ≡ work))

-- the count of blocks that Argon2 filled was raised in the same way
abbrev pub CountsBlocks : OrderModel → List ℕ → List ℕ → ℕ → ℕ → Type 0
CountsBlocks order area pass blocks blocks' = ((key_material_end order.entries ≤ length area)
    × (capped blocks' ≡ capped (blocks + blocks_filled order area pass)))
    ⊎ ((length area < key_material_end order.entries) × (capped blocks' ≡ capped blocks))

-- this holds, unless memory for Argon2 was refused
abbrev pub UnlessRefused : {T : Type 0} → Result T VolumeFault → Type 0 → Type 0
UnlessRefused (Err (V.Argon2Memory slot memory)) P = Unit {0}
UnlessRefused _ P = P

-- this much memory that Argon2 needs for the key of this slot was refused. Its turn came after the first `tried`, none
-- of which opens. These were counted
pub record CountsRefused (order : OrderModel) (area pass : List ℕ) (slot memory work work' blocks blocks' : ℕ) : Type 0
  where
    pub tried : ℕ
    pub stops : StopsAfter order.entries area pass tried slot memory
    pub counted : work' ≡ capped (work + sum_by evaluations_of (take tried order.entries))
    pub filled : capped blocks' ≡ capped (blocks + sum_by blocks_of (take tried order.entries))

-- the same, if memory for Argon2 was refused
abbrev pub IfRefused : {T : Type 0} → Result T VolumeFault → (ℕ → ℕ → Type 0) → Type 0
IfRefused (Err (V.Argon2Memory slot memory)) P = P slot memory
IfRefused _ P = Unit {0}

-- all bytes that opening the volume consumes are loaded
abbrev pub IsLoaded : VolumeOpening → List ℕ → List ℕ → Type 0
IsLoaded opening image area = (length area ≡ opening.consumed) × (area ≡ take opening.consumed image)

-- trying the key slots hit EOF on the image only if the image ended inside a key area
abbrev pub HitsMaterialEof : Result UnlockedVolume VolumeFault → Bool → Type 0
HitsMaterialEof (Err V.KeyAreaCut) ended = Unit {0}
HitsMaterialEof _ ended = ended ≡ false
