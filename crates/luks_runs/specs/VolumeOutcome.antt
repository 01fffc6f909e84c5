-- The outcomes of the commands that open volumes, and the messages with which opening one may end.
use Rattle.std.specs.Prelude.{ℕ, ◌+◌, List, length, max, if◌then◌else◌, Result, Ok, Err, ◌≡◌}
use Rattle.std.specs.Prelude.{◌<◌, ◌≤◌, ◌⊎◌, Bool, false, true, []}
use Rattle.luks_header.specs.Header.{header_of}
use Rattle.luks_format.specs.declared.segment.Segment.{Segment}
use Rattle.luks_open.specs.Reasons.{NoneOfArgon2, is_of_argon2}
use Rattle.luks_open.specs.declared.fault.VolumeFault.{VolumeFault}
use Rattle.luks_report.specs.Faults.{message_at_end, message_for_volume}
use Rattle.luks_open.specs.declared.allowed.AllowedSlots.{AllowedSlots}
use Rattle.luks_open.specs.declared.opening.Opened.{Opened}
use Rattle.luks_payload.specs.Plain.{ending_of, payload_end_of, plain_of}
use Rattle.luks_report.specs.Texts.{opened_line}
use Rattle.luks_report.specs.declared.message.Message.TheVariants.{Done, Cut, KeyFileLength, SegmentRefused}
use Rattle.luks_report.specs.declared.message.Message.TheVariants.{OutOfMemory, ReadFailed, NotLuks, Json, NoSuchSlot}
use Rattle.luks_report.specs.declared.message.Message.TheVariants.{SlotDisabled, SlotSkipped, NothingTried, NoKey}
use Rattle.luks_report.specs.declared.message.Message.TheVariants.{CutBeforePayload, Tail, Short, WriteFailed}
use Rattle.luks_runs.specs.Run.{Outcome, no_output}
use Rattle.luks_open.specs.Location.{HeaderReader}
use Rattle.luks_report.specs.declared.message.Message.{Message}
use Rattle.luks_open.specs.declared.location.HeaderLocation.{HeaderLocation}
use Rattle.luks_open.specs.declared.location.HeaderLocation.TheVariants.{Attached, Detached}
use Rattle.luks_open.specs.Volume.{VolumeOpening, volume_opening_by}

-- opening a volume may end with this message
abbrev pub OpeningMessage : Message → Type 0
OpeningMessage NotLuks = Unit {0}
OpeningMessage Cut = Unit {0}
OpeningMessage Json = Unit {0}
OpeningMessage (SegmentRefused _) = Unit {0}
OpeningMessage (NoSuchSlot _) = Unit {0}
OpeningMessage (SlotDisabled _) = Unit {0}
OpeningMessage (SlotSkipped _ _) = Unit {0}
OpeningMessage (NothingTried _) = Unit {0}
OpeningMessage KeyFileLength = Unit {0}
OpeningMessage (NoKey _) = Unit {0}
OpeningMessage OutOfMemory = Unit {0}
OpeningMessage ReadFailed = Unit {0}
OpeningMessage _ = ⊥

-- the message names no reason to skip a key slot that only a program with Argon2 has
abbrev pub MessageWithoutArgon2 : Message → Type 0
MessageWithoutArgon2 (SlotSkipped slot reason) = is_of_argon2 reason ≡ false
MessageWithoutArgon2 (NothingTried skipped) = NoneOfArgon2 skipped
MessageWithoutArgon2 (NoKey skipped) = NoneOfArgon2 skipped
MessageWithoutArgon2 _ = Unit {0}

-- opening a volume without Argon2, as commands do, may end with this message
abbrev pub CommandOpeningMessage : Message → Type 0
CommandOpeningMessage message = OpeningMessage message × MessageWithoutArgon2 message

-- a run may end with this message before it tries a key slot
abbrev pub ends_untried : Message → Bool
ends_untried Done = false
ends_untried (NoKey _) = false
ends_untried CutBeforePayload = false
ends_untried (Tail _) = false
ends_untried (Short _) = false
ends_untried WriteFailed = false
ends_untried _ = true

-- what a command does with an opened volume, by its segment, the key slot and key that opened it, and the number of
-- bytes of its image that were consumed so far
abbrev pub OnOpened : Type 0
OnOpened = Segment → Opened → ℕ → Outcome

-- whatever is done with a volume consumes at least the bytes of its image that are loaded, and the whole key file
pub record ConsumesLoaded (secret : List ℕ) (on_opened : OnOpened) : Type 0 where
  pub loaded : (segment : Segment) (opened : Opened) (loaded : ℕ)
      → loaded ≤ (on_opened segment opened loaded).consumed.input
  pub whole : (segment : Segment) (opened : Opened) (loaded : ℕ)
      → (on_opened segment opened loaded).consumed.secret ≡ length secret

-- `testPassphrase`: the line about the key slot that opens is written
abbrev pub slot_outcome : List ℕ → OnOpened
slot_outcome secret segment opened loaded =
    record (no_output Done loaded (length secret)) { output = opened_line opened.slot }

-- `luksCat`, with a header at this location: the payload in the image is written as plaintext. If the header is
-- detached, the image holds the payload alone
abbrev pub payload_outcome : HeaderLocation → List ℕ → List ℕ → OnOpened
payload_outcome Attached image secret segment opened loaded = record {
  output = plain_of segment (segment.mode, opened.key) image;
  message = message_at_end (ending_of segment image);
  consumed = record { input = max loaded (payload_end_of segment image); payload = 0; secret = length secret };
}
payload_outcome Detached image secret segment opened loaded = record {
  output = plain_of segment (segment.mode, opened.key) image;
  message = message_at_end (ending_of segment image);
  consumed = record { input = loaded; payload = payload_end_of segment image; secret = length secret };
}

-- the outcome of what is done with an opened volume, or the message for the fault
abbrev pub outcome_by : OnOpened → ℕ → ℕ → Result (Segment × Opened) VolumeFault → Outcome
outcome_by on_opened consumed secret_consumed (Ok opened) = on_opened opened.0 opened.1 consumed
outcome_by on_opened consumed secret_consumed (Err fault) =
    no_output (message_for_volume fault) consumed secret_consumed

-- a command's outcome, by how opening its volume ended
abbrev pub outcome_after : OnOpened → VolumeOpening → Outcome
outcome_after on_opened opening = outcome_by on_opened opening.consumed opening.secret_consumed opening.result

-- the outcome of a command that opens a volume whose header is read in this way
unfoldable pub volume_outcome_by : HeaderReader → OnOpened → AllowedSlots → List ℕ → List ℕ → Outcome
volume_outcome_by read on_opened slots image secret =
    outcome_after on_opened (volume_opening_by read slots image secret)

-- the outcome of a command that opens a volume
abbrev pub volume_outcome : OnOpened → AllowedSlots → List ℕ → List ℕ → Outcome
volume_outcome = volume_outcome_by header_of
