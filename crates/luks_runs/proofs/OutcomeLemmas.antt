-- What a command that opens a volume consumes, and the messages for the faults of opening it.
use Rattle.std.proofs.Common.{◌≡◌, ◌∙◌, ℕ, ◌⊎◌, List, [], Ok, Err, true, refl}
use Rattle.std.proofs.Common.{arith, ◌+◌, ◌<◌, ◌≤◌, ◌++◌, Result}
use Rattle.luks_format.specs.declared.fault.HeaderFault.TheVariants.{Read as HeaderRead, Memory as HeaderMemory}
use Rattle.luks_format.specs.declared.segment.Segment.{Segment}
use Rattle.luks_open.specs.declared.fault.OpenFault.TheVariants.{Memory, NoKey}
use Rattle.luks_open.specs.Fault.{aborts_opening, is_untried}
use Rattle.luks_open.specs.Reasons.{FaultWithoutArgon2}
use Rattle.luks_open.specs.declared.fault.PassphraseFault.TheVariants.{TooLong, Read as PassphraseRead}
use Rattle.luks_open.specs.declared.fault.PassphraseFault.TheVariants.{Memory as PassphraseMemory}
use Rattle.luks_open.specs.declared.fault.VolumeFault.{VolumeFault}
use Rattle.luks_open.specs.declared.fault.VolumeFault.TheVariants.{Header as HeaderNotRead, KeyAreaCut, Passphrase}
use Rattle.luks_open.specs.declared.fault.VolumeFault.TheVariants.{Argon2Memory, Segment as SegmentRefused, Slots}
use Rattle.luks_open.specs.declared.opening.Opened.{Opened}
use Rattle.luks_open.specs.declared.allowed.AllowedSlots.{AllowedSlots}
use Rattle.luks_open.specs.Location.{reader_for}
use Rattle.luks_open.specs.declared.location.HeaderLocation.{HeaderLocation}
use Rattle.luks_runs.specs.VolumeOutcome.{OnOpened}
use Rattle.luks_runs.specs.VolumeOutcome.{ConsumesLoaded, slot_outcome}
use Rattle.luks_open.specs.Volume.{VolumeOpening}
use Rattle.luks_open.specs.Volume.{volume_opening_by}
use Rattle.luks_runs.specs.VolumeOutcome.{outcome_after, outcome_by}
use Rattle.std.specs.Prelude.{Result}
use Rattle.luks_format.specs.declared.fault.HeaderFault.TheVariants.{NotLuks, Cut as HeaderCut, Json}
use Rattle.luks_open.specs.Fault.{is_read_failure}
use Rattle.luks_open.specs.declared.fault.OpenFault.TheVariants.{Disabled, NamedSkipped, NoSuchSlot}
use Rattle.luks_open.specs.declared.fault.OpenFault.TheVariants.{NothingTried}
use Rattle.luks_report.specs.Faults.{message_for_volume}
use Rattle.luks_runs.specs.Run.{aborts, is_run_read_failure}
use Rattle.luks_runs.specs.VolumeOutcome.{CommandOpeningMessage, MessageWithoutArgon2, OpeningMessage, ends_untried}
use Rattle.luks_open.proofs.OpeningLemmas.{opening_within}

pub slot_consumes_loaded : (secret : List ℕ) → ConsumesLoaded secret (slot_outcome secret)
slot_consumes_loaded secret =
    record { loaded = λ segment opened loaded. omega arith; whole = λ segment opened loaded. refl }

module _ (location : HeaderLocation) (slots : AllowedSlots) (image pass : List ℕ) where
  abbrev opening : VolumeOpening
  opening = volume_opening_by (reader_for location) slots image pass

  -- whatever is done with an opened volume consumes at least as much
  pub opening_consumed : (on_opened : OnOpened) → ConsumesLoaded pass on_opened
      → (opening.consumed ≤ (outcome_after on_opened opening).consumed.input)
      × (opening.secret_consumed ≤ (outcome_after on_opened opening).consumed.secret)
  opening_consumed on_opened consumes = by opening.result
    where
      by : (r : Result (Segment × Opened) VolumeFault)
          → (opening.consumed
          ≤ (outcome_by on_opened opening.consumed opening.secret_consumed r).consumed.input)
          × (opening.secret_consumed
          ≤ (outcome_by on_opened opening.consumed opening.secret_consumed r).consumed.secret)
      by (Ok opened) = (
        consumes.loaded opened.0 opened.1 opening.consumed,
        omega (arith, consumes.whole opened.0 opened.1 opening.consumed, (opening_within location slots image pass).1),
      )
      by (Err fault) = (omega arith, omega arith)

-- the message for a fault is one with which opening a volume may end, and it says what the fault says
pub record SaysAsMuch (fault : VolumeFault) : Type 0 where
  pub opening : OpeningMessage (message_for_volume fault)
  pub read : is_read_failure fault ≡ is_run_read_failure (message_for_volume fault)
  pub untried : is_untried fault ≡ true → ends_untried (message_for_volume fault) ≡ true
  pub aborted : aborts_opening fault ≡ aborts (message_for_volume fault)

pub message_says : (fault : VolumeFault) → SaysAsMuch fault
message_says (HeaderNotRead NotLuks) = record { opening = tt; read = refl; untried = λ is. refl; aborted = refl }
message_says (HeaderNotRead HeaderCut) = record { opening = tt; read = refl; untried = λ is. refl; aborted = refl }
message_says (HeaderNotRead Json) = record { opening = tt; read = refl; untried = λ is. refl; aborted = refl }
message_says (HeaderNotRead HeaderRead) = record { opening = tt; read = refl; untried = λ is. refl; aborted = refl }
message_says (HeaderNotRead HeaderMemory) = record { opening = tt; read = refl; untried = λ is. refl; aborted = refl }
message_says (SegmentRefused _) = record { opening = tt; read = refl; untried = λ is. refl; aborted = refl }
message_says (Passphrase TooLong) = record { opening = tt; read = refl; untried = λ is. refl; aborted = refl }
message_says (Passphrase PassphraseRead) = record { opening = tt; read = refl; untried = λ is. refl; aborted = refl }
message_says (Passphrase PassphraseMemory) = record { opening = tt; read = refl; untried = λ is. refl; aborted = refl }
message_says KeyAreaCut = record { opening = tt; read = refl; untried = λ is. refl; aborted = refl }
message_says (Slots (NoSuchSlot _)) = record { opening = tt; read = refl; untried = λ is. refl; aborted = refl }
message_says (Slots (Disabled _)) = record { opening = tt; read = refl; untried = λ is. refl; aborted = refl }
message_says (Slots (NamedSkipped _ _)) = record { opening = tt; read = refl; untried = λ is. refl; aborted = refl }
message_says (Slots (NothingTried _)) = record { opening = tt; read = refl; untried = λ is. refl; aborted = refl }
message_says (Slots (NoKey _)) = record { opening = tt; read = refl; untried = λ is. absurd cc; aborted = refl }
message_says (Slots Memory) = record { opening = tt; read = refl; untried = λ is. refl; aborted = refl }
message_says (Argon2Memory _ _) = record { opening = tt; read = refl; untried = λ is. refl; aborted = refl }

-- a run may end with such a message before it tries a key slot, if a read failed or memory ran out
pub aborted_untried : (fault : VolumeFault) → aborts_opening fault ≡ true
    → ends_untried (message_for_volume fault) ≡ true
aborted_untried (HeaderNotRead HeaderRead) aborted = refl
aborted_untried (HeaderNotRead HeaderMemory) aborted = refl
aborted_untried (Passphrase PassphraseRead) aborted = refl
aborted_untried (Passphrase PassphraseMemory) aborted = refl
aborted_untried (Slots Memory) aborted = refl
aborted_untried (Argon2Memory _ _) aborted = refl
aborted_untried _ aborted = absurd cc

-- the message names no reason of a program with Argon2 if the fault does not
says_without_argon2 : (fault : VolumeFault) → FaultWithoutArgon2 fault → MessageWithoutArgon2 (message_for_volume fault)
says_without_argon2 (HeaderNotRead NotLuks) is = tt
says_without_argon2 (HeaderNotRead HeaderCut) is = tt
says_without_argon2 (HeaderNotRead Json) is = tt
says_without_argon2 (HeaderNotRead HeaderRead) is = tt
says_without_argon2 (HeaderNotRead HeaderMemory) is = tt
says_without_argon2 (Passphrase TooLong) is = tt
says_without_argon2 (Passphrase PassphraseRead) is = tt
says_without_argon2 (Passphrase PassphraseMemory) is = tt
says_without_argon2 (Slots (NoSuchSlot _)) is = tt
says_without_argon2 (Slots (Disabled _)) is = tt
says_without_argon2 (Slots (NamedSkipped _ _)) is = is
says_without_argon2 (Slots (NothingTried _)) is = is
says_without_argon2 (Slots (NoKey _)) is = is
says_without_argon2 (Slots Memory) is = tt
says_without_argon2 _ is = tt

-- a command that opens a volume may end with the message for such a fault
pub command_says : (fault : VolumeFault) → FaultWithoutArgon2 fault → CommandOpeningMessage (message_for_volume fault)
command_says fault is = ((message_says fault).opening, says_without_argon2 fault is)
