-- Steps of reading a range of a plaintext.
use Rattle.std.specs.Prelude.{ℕ, ◌≡◌, ◌+◌, ◌-◌, ◌*◌, ◌/◌, ◌%◌, ◌<◌, ◌≤◌, ◌⊎◌, List, [], ◌∷◌, ◌++◌, length, take, drop}
use Rattle.luks_cipher.specs.Sector.{Cipher}
use Rattle.luks_format.specs.declared.segment.Segment.{Segment}
use Rattle.luks_payload.specs.Plain.{sector_len, sector_start}
use Rattle.luks_access.specs.Sectors.{IsAt, plain_at, plain_in, plaintext_len}
use Rattle.luks_access.specs.declared.step.ReadStep.{ReadStep}

-- sector i of the payload has one of `count` bytes of the plaintext, from this offset on: it begins before their end,
-- and ends after their start
pub record HasByteOf (s : Segment) (offset count i : ℕ) : Type 0 where
  pub before : i * sector_len s < offset + count
  pub after : offset < i * sector_len s + sector_len s

-- a step of reading `count` bytes, from this offset on, of a plaintext of `len` bytes. It reads whole sectors
-- (`whole`), from the one on that has the first byte (`first`, `start`), within the plaintext (`inside`); each of them
-- has a byte that the step gives (`each`). It gives the next bytes of the range (`skip`, `some`, `few`, `within`): all
-- that it reads, or a part of one sector (`placed`). After it the range is done or goes on with a sector (`last`), and
-- if it began with a sector, no whole sector of it is left (`most`)
pub record IsStep (s : Segment) (len offset count : ℕ) (step : ReadStep) : Type 0 where
  pub first : step.first_sector ≡ offset / sector_len s
  pub start : step.read_offset ≡ sector_start s step.first_sector
  pub whole : step.read_len % sector_len s ≡ 0
  pub inside : step.first_sector * sector_len s + step.read_len ≤ len
  pub each : (i : ℕ) → step.first_sector ≤ i
      → i * sector_len s < step.first_sector * sector_len s + step.read_len → HasByteOf s offset step.count i
  pub skip : step.skip ≡ offset % sector_len s
  pub some : 0 < step.count
  pub few : step.count ≤ count
  pub within : step.skip + step.count ≤ step.read_len
  pub placed : (step.read_len ≡ step.count) ⊎ (step.read_len ≡ sector_len s)
  pub last : (step.count ≡ count) ⊎ ((offset + step.count) % sector_len s ≡ 0)
  pub most : step.skip ≡ 0 → count < step.count + sector_len s

-- a step of reading no bytes reads nothing: all of it is zero
pub record ReadsNothing (step : ReadStep) : Type 0 where
  pub read_offset : step.read_offset ≡ 0
  pub read_len : step.read_len ≡ 0
  pub first_sector : step.first_sector ≡ 0
  pub skip : step.skip ≡ 0
  pub count : step.count ≡ 0

-- the next step of reading `count` bytes
pub record IsNextStep (s : Segment) (len offset count : ℕ) (step : ReadStep) : Type 0 where
  pub next : 0 < count → IsStep s len offset count step
  pub done : count ≡ 0 → ReadsNothing step

-- ---- whole runs of steps

-- a step that was done: the bytes that were read for it, and those that it gave
pub record StepDone : Type 0 where
  pub step : ReadStep
  pub stored : List ℕ
  pub given : List ℕ

-- the step was done over this image: the bytes are those that it names, and it gave those of their plaintext that the
-- range gets
pub record IsDoneOver (s : Segment) (cipher : Cipher) (image : List ℕ) (done : StepDone) : Type 0 where
  pub long : length done.stored ≡ done.step.read_len
  pub at : IsAt image done.step.read_offset done.stored
  pub gives : done.given
      ≡ take done.step.count (drop done.step.skip (plain_in s cipher done.step.first_sector done.stored))

-- these steps, one after the other, read `count` bytes of a plaintext of `len` bytes from this offset on, until none is
-- left
abbrev pub AreSteps : Segment → Cipher → List ℕ → ℕ → ℕ → ℕ → List StepDone → Type 0
AreSteps s cipher image len offset count [] = count ≡ 0
AreSteps s cipher image len offset count (done ∷ rest) =
    IsStep s len offset count done.step × IsDoneOver s cipher image done
    × AreSteps s cipher image len (offset + done.step.count) (count - done.step.count) rest

-- all bytes that they gave
abbrev pub given_by : List StepDone → List ℕ
given_by [] = []
given_by (done ∷ rest) = done.given ++ given_by rest

-- whoever reads the bytes that each step names, until the range is done, has that range of the plaintext, after at most
-- three steps
abbrev pub StepsReadRange : Type 0
StepsReadRange =
    (s : Segment) (cipher : Cipher) (image : List ℕ) (offset count : ℕ) (steps : List StepDone)
    → AreSteps s cipher image (plaintext_len s image) offset count steps
    → (given_by steps ≡ plain_at s cipher image offset count) × (length steps ≤ 3)
