-- What the clauses of `execute` and `execute_detached` say, clause by clause. With an attached header, header, key
-- areas and payload are in one image. With a detached one, header and key areas come from the header's file, and the
-- payload from the image, at the segment's own offset.
use Rattle.std.specs.Prelude.{◌≡◌, ℕ, ◌<◌, ◌^◌, max, List, length, Option, Some, Bool, true, ◌&&◌, not, ◌⊎◌, is_err}
use Rattle.std.specs.Prelude.{false, ◌≤◌, ◌+◌, ◌-◌, ◌*◌, ◌/◌, Ok}
use Rattle.luks_io.specs.Counts.{Reads, Writes, allowed_to}
use Rattle.luks_io.specs.declared.counts.ReadCounts.{ReadCounts}
use Rattle.luks_io.specs.declared.counts.WriteCounts.{WriteCounts}
use Rattle.luks_io.specs.Devices.{Appended, ConsumedExactly, ConsumedFewer, IfKnown, counted}
use Rattle.luks_request.specs.Request.{Request, test_passphrase, luks_cat, af_split, is_luks, luks_uuid}
use Rattle.luks_request.specs.Request.{luks_dump, luks_check, af_merge}
use Rattle.luks_open.specs.declared.allowed.AllowedSlots.{AllowedSlots}
use Rattle.luks_open.specs.Allowed.{pbkdf2_alone}
use Rattle.luks_open.specs.Location.{HeaderReader, reader_for, detached_header_of}
use Rattle.luks_open.specs.declared.location.HeaderLocation.{HeaderLocation}
use Rattle.luks_open.specs.declared.location.HeaderLocation.TheVariants.{Attached, Detached}
use Rattle.luks_runs.specs.Payload.{max_payload_end}
use Rattle.luks_runs.specs.Run.{Promptness, AnyPromptness, is_run_read_failure}
use Rattle.luks_runs.specs.Run.{is_run_write_failure, OutcomeMatches, RunMatches, aborts, ConsumedNothing, Outcome}
use Rattle.luks_runs.specs.Stripe.{max_key_len, PromptSplit, merge_outcome, split_outcome}
use Rattle.luks_open.specs.Volume.{HasSegmentBy, MayRunOut, volume_by}
use Rattle.luks_runs.specs.VolumeOutcome.{slot_outcome, OnOpened}
use Rattle.luks_open.specs.Volume.{Volume, unlock_read_len}
use Rattle.luks_runs.specs.VolumeOutcome.{volume_outcome_by, CommandOpeningMessage, OpeningMessage}
use Rattle.luks_runs.specs.VolumeOutcome.{ends_untried}
use Rattle.luks_runs.specs.VolumeOutcome.{payload_outcome}
use Rattle.luks_runs.specs.Honest.{OpensHonest}
use Rattle.luks_format.specs.declared.segment.Segment.{Segment}
use Rattle.luks_report.specs.declared.message.Message.{Message}
use Rattle.luks_report.specs.declared.message.Message.TheVariants.{Done, OutOfMemory, ReadFailed, WriteFailed}
use Rattle.luks_header.specs.Header.{header_of, header_read_len}
use Rattle.luks_kdf.specs.Pbkdf2.{capped}
use Rattle.luks_open.specs.Opening.{work_of}
use Rattle.luks_open.specs.declared.opening.Opened.{Opened}
use Rattle.luks_payload.specs.Plain.{sector_len, sector_start}
use Rattle.luks_runs.specs.HeaderOutcome.{is_luks_outcome, print_outcome_by}
use Rattle.luks_runs.specs.declared.headers.Printout.TheVariants.{Uuid, Dump, Check}
use Rattle.luks_runs.specs.RunMessages.{CheckMessage, IsLuksMessage, MergeMessage, PayloadMessage, PrintMessage}
use Rattle.luks_runs.specs.RunMessages.{SplitMessage}

-- ---- `run`: how the run of a command is compared with the outcome for the bytes of its inputs

-- forwarding a payload is aborted: if a write fails, no byte of the image past the sector in which it failed was
-- consumed, except for the header's; if a read fails, the output is the whole sectors that were consumed. This is said
-- of a failed read if the header's bytes end before the payload starts, or the run consumed more than the header's
-- bytes. (Neither holds only if a damaged primary header has a size that reaches past the payload's start, and the run
-- consumed no byte past that size.)
abbrev pub PromptForwarding : Segment → ℕ → Message → ℕ → ℕ → Type 0
PromptForwarding s header_len WriteFailed consumed output =
    consumed ≤ max header_len (sector_start s (output / sector_len s + 1))
PromptForwarding s header_len ReadFailed consumed output = (header_len ≤ s.offset) ⊎ (header_len < consumed)
    → output ≡ (consumed - s.offset) / sector_len s * sector_len s
PromptForwarding s header_len _ consumed output = Unit {0}

-- forwarding the payload was prompt. With a detached header, the payload is in an image of its own, and no byte of that
-- image is consumed for a header
abbrev pub PromptPayload : HeaderLocation → List ℕ → Promptness
PromptPayload Attached image message consumed output = (segment : Segment) → HasSegmentBy header_of image segment
    → PromptForwarding segment (header_read_len image) message consumed.input output
PromptPayload Detached file message consumed output = (segment : Segment) → HasSegmentBy detached_header_of file segment
    → PromptForwarding segment 0 message consumed.payload output

-- opening a volume was aborted: memory runs out only after a number of bytes of the image at which it may
abbrev pub AbortedOpening : HeaderLocation → AllowedSlots → List ℕ → Promptness
AbortedOpening location slots image OutOfMemory consumed _ = MayRunOut (reader_for location) slots image consumed.input
AbortedOpening location slots image _ consumed output = Unit {0}

-- opening a volume or `luksCat` was aborted
abbrev pub PromptCat : HeaderLocation → AllowedSlots → List ℕ → Promptness
PromptCat location slots image message consumed output = AbortedOpening location slots image message consumed output
    × PromptPayload location image message consumed output

-- what a device has before and after a run
pub record Change (T : Type 0) : Type 0 where
  pub before : T
  pub after : T

-- what the devices of a run have before and after it, each of its inputs and its output
pub record Devices (In Out : Type 0) : Type 0 where
  -- the image, the file with a detached header, the key or the stripes
  pub input : Change In
  -- the image with the payload, which is the first input unless the header is detached
  pub payload : Change In
  -- the key file, or the random bytes
  pub secret : Change In
  pub output : Change Out

-- if the first input knows its bytes, the run has the outcome for these, or was aborted on the way to it
abbrev pub RunsOverInput : (List ℕ → Outcome) → Message → Devices (Option (List ℕ)) (Option (List ℕ)) → Type 0
RunsOverInput outcome message bytes = IfKnown bytes.input.before (λ input.
    RunMatches AnyPromptness (outcome input) message (ConsumedExactly input bytes.input.after) ConsumedNothing
    (Appended bytes.output.before bytes.output.after))

-- the same for the first input and the second one; `pace`, for the first, says how promptly an aborted run ends
abbrev pub RunsOverInputs : (List ℕ → Promptness) → (List ℕ → List ℕ → Outcome) → Message
    → Devices (Option (List ℕ)) (Option (List ℕ)) → Type 0
RunsOverInputs pace outcome message bytes = IfKnown bytes.input.before (λ input. IfKnown bytes.secret.before (λ secret.
    RunMatches (pace input) (outcome input secret) message (ConsumedExactly input bytes.input.after)
    (ConsumedExactly secret bytes.secret.after) (Appended bytes.output.before bytes.output.after)))

-- the run of a command, if its header is at this location: if its inputs know their bytes, it has the outcome for
-- these, or was aborted on the way to it. The image of `luksCat` has to be shorter than 2^64 bytes, which it counts in
-- 64 bits. With an attached header, that image is the first input, and nothing is consumed of another one; with a
-- detached header, the file with the header is the first input, and the payload is in an image of its own
abbrev pub RunsAsSpecified : Request → HeaderLocation → Message → Devices (Option (List ℕ)) (Option (List ℕ)) → Type 0
RunsAsSpecified (is_luks _) location message bytes = RunsOverInput is_luks_outcome message bytes
RunsAsSpecified (luks_uuid _) location message bytes =
    RunsOverInput (print_outcome_by (reader_for location) Uuid) message bytes
RunsAsSpecified (luks_dump _) location message bytes =
    RunsOverInput (print_outcome_by (reader_for location) Dump) message bytes
RunsAsSpecified (luks_check _) location message bytes =
    RunsOverInput (print_outcome_by (reader_for location) Check) message bytes
RunsAsSpecified (test_passphrase o) location message bytes =
    RunsOverInputs (AbortedOpening location (pbkdf2_alone o.slots)) (λ input secret. volume_outcome_by
    (reader_for location) (slot_outcome secret) (pbkdf2_alone o.slots) input secret) message bytes
RunsAsSpecified (luks_cat o) Attached message bytes =
    IfKnown bytes.input.before (λ image. IfKnown bytes.secret.before (λ secret. length image < 2 ^ 64
    → OutcomeMatches (PromptCat Attached (pbkdf2_alone o.slots) image)
    (volume_outcome_by header_of (payload_outcome Attached image secret) (pbkdf2_alone o.slots) image secret) message
    (λ consumed output. ConsumedExactly image bytes.input.after consumed.input × (consumed.payload ≡ 0)
    × ConsumedExactly secret bytes.secret.after consumed.secret
    × Appended bytes.output.before bytes.output.after output)))
RunsAsSpecified (luks_cat o) Detached message bytes = IfKnown bytes.input.before (λ file.
    IfKnown bytes.payload.before (λ image. IfKnown bytes.secret.before (λ secret. length image < 2 ^ 64
    → OutcomeMatches (PromptCat Detached (pbkdf2_alone o.slots) file)
    (volume_outcome_by detached_header_of (payload_outcome Detached image secret) (pbkdf2_alone o.slots) file secret)
    message (λ consumed output. ConsumedExactly file bytes.input.after consumed.input
    × ConsumedExactly image bytes.payload.after consumed.payload
    × ConsumedExactly secret bytes.secret.after consumed.secret
    × Appended bytes.output.before bytes.output.after output))))
RunsAsSpecified (af_split s) location message bytes =
    RunsOverInputs (λ key. PromptSplit (length key)) (split_outcome s.hash s.stripes) message bytes
RunsAsSpecified (af_merge m) location message bytes =
    RunsOverInput (merge_outcome m.hash m.stripes m.key_bytes) message bytes

-- ---- `work`: the evaluations of HMAC

-- at least this many of a source's remaining bytes were consumed
abbrev pub ConsumedAtLeast : List ℕ → Option (List ℕ) → ℕ → Type 0
ConsumedAtLeast known left least = (count : ℕ) × (least ≤ count) × ConsumedExactly known left count

-- what opening a volume works with
pub record Trial : Type 0 where
  -- the bytes of the image, or of the file with a detached header
  pub image : Change (Option (List ℕ))
  -- the bytes of the key file, before it is read
  pub passphrase : Option (List ℕ)
  -- the counts of the key file
  pub key_file : Change ReadCounts
  -- the evaluations of HMAC
  pub work : Change ℕ

-- the key slots of the image's volume were tried: EOF was hit on the key file, and all bytes of the image were
-- consumed that opening the volume needs
pub record TriesVolume (location : HeaderLocation) (slots : AllowedSlots) (image : List ℕ) (trial : Trial)
    (volume : Volume) : Type 0 where
  pub is_volume : volume_by (reader_for location) slots image ≡ Ok volume
  pub key_file : trial.key_file.after.ends ≡ counted true trial.key_file.before.ends
  pub material : length image < 2 ^ 64 → ConsumedAtLeast image trial.image.after (unlock_read_len image volume)

-- the key slots were tried, and the count of work was raised by the evaluations of HMAC that this costs
abbrev pub CountsTried : HeaderLocation → AllowedSlots → List ℕ → List ℕ → Trial → Type 0
CountsTried location slots image passphrase trial =
    (volume : Volume) × TriesVolume location slots image trial volume
    × (trial.work.after ≡ capped (trial.work.before + work_of volume.order image passphrase))

-- no key slot was tried: EOF was not hit on the key file, or not all bytes were consumed that opening the image's
-- volume needs. The image has no volume, or the message may come before a key slot is tried
pub record EndsUntried (location : HeaderLocation) (slots : AllowedSlots) (image : List ℕ) (message : Message)
    (trial : Trial) : Type 0 where
  pub unread : (trial.key_file.after.ends ≡ trial.key_file.before.ends) ⊎ ((volume : Volume)
      × (volume_by (reader_for location) slots image ≡ Ok volume)
      × ConsumedFewer image trial.image.after (unlock_read_len image volume))
  pub early : (is_err (volume_by (reader_for location) slots image) ≡ true) ⊎ (ends_untried message ≡ true)

-- this holds of the image's bytes and of those of the passphrase, if both are known
abbrev pub IfInputsKnown : Trial → (List ℕ → List ℕ → Type 0) → Type 0
IfInputsKnown trial Holds =
    IfKnown trial.image.before (λ image. IfKnown trial.passphrase (λ passphrase. Holds image passphrase))

-- if the inputs know their bytes: the key slots were tried, and the count of work was raised by what that costs; or
-- none was tried, and the count is what it was
abbrev pub CountsOpening : HeaderLocation → AllowedSlots → Message → Trial → Type 0
CountsOpening location slots message trial = IfInputsKnown trial (λ image passphrase.
    CountsTried location slots image passphrase trial
    ⊎ (EndsUntried location slots image message trial × (trial.work.after ≡ trial.work.before)))

-- the evaluations of HMAC that a run of a command needs, if its inputs know their bytes: those of trying the key slots
-- if they were tried, and none otherwise. A command that opens no volume needs none
abbrev pub CountsWork : HeaderLocation → Request → Message → Trial → Type 0
CountsWork location (test_passphrase o) message trial = CountsOpening location (pbkdf2_alone o.slots) message trial
CountsWork location (luks_cat o) message trial = CountsOpening location (pbkdf2_alone o.slots) message trial
CountsWork location _ message trial = trial.work.after ≡ trial.work.before

-- ---- `honest`: volumes that are honestly sealed

-- what `luksCat` writes if the volume is honestly sealed: a run that is not aborted writes the plaintext and succeeds
abbrev pub WritesPlain : Request → Message → Option (List ℕ) → Option (List ℕ) → Change (Option (List ℕ)) → Type 0
WritesPlain (luks_cat o) message image secret output =
    IfKnown image (λ known. IfKnown secret (λ passphrase.
    (plain : List ℕ) → length known < 2 ^ 64 → OpensHonest (pbkdf2_alone o.slots) known passphrase plain
    → aborts message ≡ false → (message ≡ Done) × Appended output.before output.after plain))
WritesPlain _ message image secret output = Unit {0}

-- ---- `only`: the messages

-- the messages that a command may end with, whatever its devices do. None names a reason to skip a key slot that only a
-- program with Argon2 has
abbrev pub MayReport : Request → Message → Type 0
MayReport (is_luks _) message = IsLuksMessage message
MayReport (luks_uuid _) message = PrintMessage message
MayReport (luks_dump _) message = PrintMessage message
MayReport (luks_check _) message = CheckMessage message
MayReport (test_passphrase o) message = CommandOpeningMessage message ⊎ (message ≡ Done ⊎ message ≡ WriteFailed)
MayReport (luks_cat o) message = CommandOpeningMessage message ⊎ PayloadMessage message
MayReport (af_split s) message = SplitMessage message
MayReport (af_merge m) message = MergeMessage message

-- ---- `unneeded`, `untouched`, `reads_first`: devices that are not used

-- a source knows its bytes, and they have this property
abbrev pub Knows : Option (List ℕ) → (List ℕ → Type 0) → Type 0
Knows device Holds = (known : List ℕ) × (device ≡ Some known) × Holds known

-- the command has no second input, or needs none of it: the header, read in this way, the segment, the order of the key
-- slots or, for `afSplit`, the length of the key to be split ends the run
abbrev pub NeedsNoSecret : HeaderReader → Request → Option (List ℕ) → Type 0
NeedsNoSecret read (test_passphrase o) image =
    Knows image (λ known. is_err (volume_by read (pbkdf2_alone o.slots) known) ≡ true)
NeedsNoSecret read (luks_cat o) image =
    Knows image (λ known. is_err (volume_by read (pbkdf2_alone o.slots) known) ≡ true)
NeedsNoSecret read (af_split s) image = Knows image (λ known. (length known ≡ 0) ⊎ (max_key_len < length known))
NeedsNoSecret read _ image = Unit {0}

-- the run surely ended before a key was found: with a message of opening, but not with a failed read, which may have
-- been a read of the payload
abbrev pub EndsWithoutKey : Message → Type 0
EndsWithoutKey message = OpeningMessage message × (is_run_read_failure message ≡ false)

-- the payload's image is not read: only `luksCat` reads it, and only after a key was found
abbrev pub NeedsNoPayload : Request → Message → Type 0
NeedsNoPayload (luks_cat o) message = EndsWithoutKey message
NeedsNoPayload request message = Unit {0}

-- a command that writes nothing before its last read
abbrev pub ReadsFirst : Request → Type 0
ReadsFirst (luks_cat o) = ⊥
ReadsFirst (af_split s) = ⊥
ReadsFirst _ = Unit {0}

-- ---- `calls`: how the devices are called

-- what a run adds to the counts of a source: a failure if a read of it failed, at most one end, and no needless read.
-- No read-ahead is allowed
abbrev pub ReadsOnce : Bool → ReadCounts → ReadCounts → Type 0
ReadsOnce failed before after = (ended : Bool) × Reads failed ended before after

-- the same for the image of a payload, for which read-ahead is allowed up to one position, and no further at any moment
abbrev pub ReadsPayload : (ℕ → Type 0) → Bool → ReadCounts → ReadCounts → Type 0
ReadsPayload Allows failed before after = (end : ℕ) × Allows end × ReadsOnce failed (allowed_to end before) after

-- under this passphrase a key of the volume is found, and then the command goes on with this segment
abbrev pub FindsKey : HeaderLocation → AllowedSlots → List ℕ → List ℕ → Segment → Type 0
FindsKey location slots image secret segment = (opened : Opened) × (loaded : ℕ) × ((on_opened : OnOpened)
    → volume_outcome_by (reader_for location) on_opened slots image secret ≡ on_opened segment opened loaded)

-- the position of its payload's image up to which `luksCat` allows read-ahead: 0, which is none, if the run surely
-- ended without a key. If both inputs know their bytes, it is 0 or, under a passphrase that opens the volume, the
-- payload's end
abbrev pub CatAllows : HeaderLocation → AllowedSlots → Message → Option (List ℕ) → Option (List ℕ) → ℕ → Type 0
CatAllows location slots message input secret end = (EndsWithoutKey message → end ≡ 0)
    × IfKnown input (λ known. IfKnown secret (λ passphrase. (end ≡ 0)
    ⊎ ((segment : Segment) × FindsKey location slots known passphrase segment × (end ≡ max_payload_end segment))))

-- what a command adds to the counts of its image, or of its payload's image: only `luksCat` reads a payload
abbrev pub ReadsImage : HeaderLocation → Request → Message → Option (List ℕ) → Option (List ℕ) → Bool → ReadCounts
    → ReadCounts → Type 0
ReadsImage location (luks_cat o) message input secret =
    ReadsPayload (CatAllows location (pbkdf2_alone o.slots) message input secret)
ReadsImage location _ message input secret = ReadsOnce

-- what a part of a run that reads its first input in this way adds to the counts of both inputs: a failure of one of
-- them if a read failed, at most one end of each, and no needless read
pub record CountsReads (ReadsIt : Bool → ReadCounts → ReadCounts → Type 0) (failed : Bool)
    (input secret : Change ReadCounts) : Type 0 where
  -- if a read failed, it was one of the first input
  pub in_input : Bool
  pub input_reads : ReadsIt (in_input && failed) input.before input.after
  pub secret_reads : ReadsOnce (not in_input && failed) secret.before secret.after

-- how a run reads its first input, if it reads the image with the payload in this way
abbrev pub ReadsInput : HeaderLocation → (Bool → ReadCounts → ReadCounts → Type 0) → Bool → ReadCounts → ReadCounts
    → Type 0
ReadsInput Attached ReadsIt = ReadsIt
ReadsInput Detached ReadsIt = ReadsOnce

-- how a run reads an image that has the payload alone, of which no read can fail if there is none
abbrev pub ReadsAlone : HeaderLocation → (Bool → ReadCounts → ReadCounts → Type 0) → Bool → ReadCounts → ReadCounts
    → Type 0
ReadsAlone Attached ReadsIt failed before after = failed ≡ false
ReadsAlone Detached ReadsIt failed before after = ReadsIt failed before after

-- what a run that reads the image with the payload in this way adds to the counts of its devices: a failure of one of
-- its inputs if a read failed, one of the output if a write failed, at most one end of each input, and no needless call
pub record CountsCalls (location : HeaderLocation) (ReadsIt : Bool → ReadCounts → ReadCounts → Type 0)
    (message : Message) (counts : Devices ReadCounts WriteCounts) : Type 0 where
  -- if a read failed, it was one of an image that has the payload alone
  pub in_payload : Bool
  pub reads : CountsReads (ReadsInput location ReadsIt) (not in_payload && is_run_read_failure message)
      counts.input counts.secret
  pub payload_reads : ReadsAlone location ReadsIt (in_payload && is_run_read_failure message) counts.payload.before
      counts.payload.after
  pub out_writes : Writes (is_run_write_failure message) counts.output.before counts.output.after
