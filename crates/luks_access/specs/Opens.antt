-- Which volume is opened, compared with `luksCat`.
use Rattle.std.specs.Prelude.{ℕ, ◌≡◌, List, Ok, IfErr, IfOk, false, true, is_some, Option, Result, Err}
use Rattle.luks_cipher.specs.Sector.{Cipher}
use Rattle.luks_open.specs.Fault.{aborts_opening, has_fault}
use Rattle.luks_open.specs.declared.fault.OpenFault.TheVariants.{Memory}
use Rattle.luks_open.specs.declared.fault.PassphraseFault.{PassphraseFault}
use Rattle.luks_open.specs.declared.fault.PassphraseFault.TheVariants.{TooLong}
use Rattle.luks_open.specs.declared.fault.VolumeFault.{VolumeFault}
use Rattle.luks_open.specs.declared.fault.VolumeFault.TheVariants as V
use Rattle.luks_report.specs.Faults.{message_at_end}
use Rattle.luks_open.specs.declared.opening.Opened.{Opened}
use Rattle.luks_open.specs.declared.allowed.SlotChoice.{SlotChoice}
use Rattle.luks_open.specs.Allowed.{NeedsNoArgon2, pbkdf2_alone}
use Rattle.luks_open.specs.declared.allowed.AllowedSlots.{AllowedSlots}
use Rattle.luks_runs.specs.Run.{Outcome}
use Rattle.luks_open.specs.Location.{detached_header_of, reader_for}
use Rattle.luks_open.specs.declared.location.HeaderLocation.{HeaderLocation}
use Rattle.luks_open.specs.declared.location.HeaderLocation.TheVariants.{Attached, Detached}
use Rattle.luks_runs.specs.Honest.{OpensHonest}
use Rattle.luks_open.specs.Volume.{CanBeTried, ConsumedUnless, VolumeOpening, opened_of, volume_opening_by}
use Rattle.luks_runs.specs.VolumeOutcome.{payload_outcome}
use Rattle.luks_runs.specs.VolumeOutcome.{volume_outcome, volume_outcome_by}
use Rattle.luks_open.specs.declared.unlocked.UnlockedVolume.{UnlockedVolume}
use Rattle.luks_payload.specs.Plain.{ending_of, plain_of}
use Rattle.luks_payload.specs.declared.state.Step.TheVariants.{End}
use Rattle.luks_access.specs.declared.options.Options.{Options}

-- the cipher of an open volume
abbrev pub cipher_of : UnlockedVolume → Cipher
cipher_of v = (v.segment.mode, v.key)

-- the plaintext of an open volume, if this is its payload's image
abbrev pub plaintext_of : UnlockedVolume → List ℕ → List ℕ
plaintext_of v image = plain_of v.segment (cipher_of v) image

-- the key slots that these options allow; without Argon2, those that a command with the same options may try
abbrev pub allowed_by : Options → AllowedSlots
allowed_by options = record {
  named = options.slots.named;
  limits = record { max_iterations = options.slots.max_iterations; argon2 = options.argon2 };
}

-- how opening ends with these options and this passphrase: without Argon2, as for every command that opens a volume
abbrev pub opening_with : Options → List ℕ → List ℕ → VolumeOpening
opening_with options header pass = volume_opening_by (reader_for options.location) (allowed_by options) header pass

-- that opens this volume
abbrev pub Opens : Options → List ℕ → List ℕ → UnlockedVolume → Type 0
Opens options header pass v = (opening_with options header pass).result ≡ Ok (v.segment, opened_of v)

-- that ends with this fault
abbrev pub Refuses : Options → List ℕ → List ℕ → VolumeFault → Type 0
Refuses options header pass fault = (opening_with options header pass).result ≡ Err fault

-- the image of the payload: the one that the header is attached to, or another
abbrev pub payload_image_of : HeaderLocation → List ℕ → List ℕ → List ℕ
payload_image_of Attached header image = header
payload_image_of Detached header image = image

-- the outcome of `luksCat` if it tries these key slots, with an attached header, or with a detached one and this image
abbrev pub cat_outcome_of : HeaderLocation → AllowedSlots → List ℕ → List ℕ → List ℕ → Outcome
cat_outcome_of Attached slots header image pass =
    volume_outcome (payload_outcome Attached header pass) slots header pass
cat_outcome_of Detached slots header image pass =
    volume_outcome_by detached_header_of (payload_outcome Detached image pass) slots header pass

-- the volume's plaintext in this image is written, and the run ends as the payload does
abbrev pub HasPlaintext : Outcome → UnlockedVolume → List ℕ → Type 0
HasPlaintext outcome v image =
    (outcome.output ≡ plaintext_of v image) × (outcome.message ≡ message_at_end (ending_of v.segment image))

-- with a header at the same location and the same segment, under a passphrase that gives the same volume key, `luksCat`
-- writes this volume's plaintext
abbrev pub CatsByKey : HeaderLocation → UnlockedVolume → Type 0
CatsByKey location v = (slots : SlotChoice) (header image pass : List ℕ) (opened : Opened)
    → (volume_opening_by (reader_for location) (pbkdf2_alone slots) header pass).result ≡ Ok (v.segment, opened)
    → opened.key ≡ v.key
    → HasPlaintext (cat_outcome_of location (pbkdf2_alone slots) header image pass) v
    (payload_image_of location header image)

-- if no key slot of the header needs Argon2, opening ends as for every command that may try the same key slots
abbrev pub OpensAsLuksCat : Options → List ℕ → List ℕ → Type 0
OpensAsLuksCat options header pass = IfOk (reader_for options.location header) NeedsNoArgon2
    → opening_with options header pass
    ≡ volume_opening_by (reader_for options.location) (pbkdf2_alone options.slots) header pass

-- a volume was opened (`opens`): what `luksCat` would write if it tried the same key slots is its plaintext (`cats`),
-- and so is what `luksCat` writes of each volume with the same segment and volume key, whichever key slot was opened
-- here (`cats_by_key`). If it was sealed honestly, with an attached header, that is the plaintext that was sealed, and
-- it is whole (`honest`)
pub record OpensVolume (options : Options) (header pass : List ℕ) (v : UnlockedVolume) : Type 0 where
  pub opens : Opens options header pass v
  pub as_luks_cat : OpensAsLuksCat options header pass
  pub cats : (image : List ℕ) → HasPlaintext (cat_outcome_of options.location (allowed_by options) header image pass) v
      (payload_image_of options.location header image)
  pub cats_by_key : CatsByKey options.location v
  pub honest : (plain : List ℕ) → options.location ≡ Attached → OpensHonest (allowed_by options) header pass plain
      → (plaintext_of v header ≡ plain) × (ending_of v.segment header ≡ Ok End)

-- no volume was opened. Unless memory ran out or a read failed, opening ends with this fault (`refuses`), and the
-- image is no honestly sealed volume, with an attached header, that this passphrase opens (`no_honest`). Memory for the
-- key slots runs out only if some can be tried (`memory`). So does memory for Argon2, and only if there are limits for
-- it (`argon2`)
pub record RefusesVolume (options : Options) (header pass : List ℕ) (fault : VolumeFault) : Type 0 where
  pub refuses : aborts_opening fault ≡ false → Refuses options header pass fault
  pub as_luks_cat : OpensAsLuksCat options header pass
  pub memory : fault ≡ V.Slots Memory → CanBeTried (opening_with options header pass).result
  pub argon2 : (slot memory : ℕ) → fault ≡ V.Argon2Memory slot memory
      → (is_some options.argon2 ≡ true) × CanBeTried (opening_with options header pass).result
  -- the passphrase is there and is not read: it can only be too long
  pub only_long : (passphrase : PassphraseFault) → fault ≡ V.Passphrase passphrase → passphrase ≡ TooLong
  pub no_honest : (plain : List ℕ) → options.location ≡ Attached → aborts_opening fault ≡ false
      → OpensHonest (allowed_by options) header pass plain → ⊥

-- what opening a volume answers, and what it leaves of the bytes of its source: it consumed as many bytes as every such
-- command consumes to open the volume, or no more than these if a read failed or memory ran out
pub record EndsOpening (options : Options) (header pass : List ℕ) (result : Result UnlockedVolume VolumeFault)
    (left : Option (List ℕ)) : Type 0 where
  pub opens : IfOk result (OpensVolume options header pass)
  pub refuses : IfErr result (RefusesVolume options header pass)
  pub consumes
      : ConsumedUnless (has_fault aborts_opening result) header left (opening_with options header pass).consumed
