-- Opening a volume by the passphrase in a key file: what it does to the devices, and what is known of the volume then.
use Rattle.std.specs.Prelude.{◌≡◌, ℕ, max, List, length, Option}
use Rattle.std.specs.Prelude.{◌≤◌, take, IsOk, Result, Ok, Err}
use Rattle.luks_io.specs.Devices.{Appended, ConsumedExactly}
use Rattle.luks_open.specs.declared.allowed.AllowedSlots.{AllowedSlots}
use Rattle.luks_open.specs.Location.{reader_for}
use Rattle.luks_open.specs.declared.location.HeaderLocation.{HeaderLocation}
use Rattle.luks_open.specs.declared.location.HeaderLocation.TheVariants.{Attached}
use Rattle.luks_runs.specs.Run.{RunMatches}
use Rattle.luks_runs.specs.VolumeOutcome.{ConsumesLoaded, OnOpened, volume_outcome_by}
use Rattle.luks_open.specs.Volume.{HasSegmentBy, volume_by}
use Rattle.luks_format.specs.declared.segment.Segment.{Segment}
use Rattle.luks_report.specs.Faults.{message_for_volume}
use Rattle.luks_report.specs.declared.message.Message.{Message}
use Rattle.luks_header.specs.Header.{header_read_len}
use Rattle.luks_open.specs.declared.opening.Opened.{Opened}
use Rattle.luks_open.specs.declared.fault.VolumeFault.{VolumeFault}
use Rattle.luks_commands.specs.Headline.{CountsOpening, CountsTried, IfInputsKnown, PromptCat, Trial}

-- the volume was not opened, and the message says why: nothing was written, and the run matches the specified outcome,
-- whatever the command would do with an open volume
abbrev pub EndsLocked : HeaderLocation → AllowedSlots → List ℕ → List ℕ → Message → Option (List ℕ)
    → Option (List ℕ) → Type 0
EndsLocked location slots image secret message image' secret' =
    (on_opened : OnOpened) → ConsumesLoaded secret on_opened → (written : Option (List ℕ))
    → RunMatches (PromptCat location slots image) (volume_outcome_by (reader_for location) on_opened slots image secret)
    message (ConsumedExactly image image') (ConsumedExactly secret secret') (Appended written written)

-- an opening of a volume: from which bytes, and which of them remained
pub record Unlocking : Type 0 where
  pub location : HeaderLocation
  pub slots : AllowedSlots
  -- the image, or the file with the header
  pub image : List ℕ
  pub image' : Option (List ℕ)
  -- the key file
  pub secret : List ℕ
  pub secret' : Option (List ℕ)

-- the volume was opened: its segment and its key are these, and these first bytes of the image, or of the file with the
-- header, are loaded. With an attached header they reach past the payload's start only as far as the header was read
pub record Unlocks (from : Unlocking) (segment : Segment) (opened : Opened) (loaded : List ℕ) : Type 0 where
  pub outcome : (on_opened : OnOpened)
      → volume_outcome_by (reader_for from.location) on_opened from.slots from.image from.secret
      ≡ on_opened segment opened (length loaded)
  pub there : IsOk (volume_by (reader_for from.location) from.slots from.image)
  pub has : HasSegmentBy (reader_for from.location) from.image segment
  pub no_further : from.location ≡ Attached → length loaded ≤ max (header_read_len from.image) segment.offset
  pub prefix : loaded ≡ take (length loaded) from.image
  pub input_consumed : ConsumedExactly from.image from.image' (length loaded)
  pub secret_consumed : ConsumedExactly from.secret from.secret' (length from.secret)

-- if the volume was opened, its key slots were tried, and the count of work was raised by what that costs
abbrev pub CountsUnlocking : {T : Type 0} → HeaderLocation → AllowedSlots → Result T VolumeFault → Trial → Type 0
CountsUnlocking location slots (Ok _) trial =
    IfInputsKnown trial (λ image passphrase. CountsTried location slots image passphrase trial)
CountsUnlocking location slots (Err fault) trial = CountsOpening location slots (message_for_volume fault) trial
