-- The result of a device's answers: an interrupted call is retried a limited number of times. Also the model of a
-- source over such a device.
use Rattle.std.specs.Prelude.{◌≡◌, ◌==◌, ℕ, zero, suc, ◌≤◌, List, [], ◌∷◌, length, take, Option, Some, Result, Ok, Err}
use Rattle.std.specs.Prelude.{if◌then◌else◌, ◌<◌}
use Rattle.std.specs.Io.KnownBytes.{Appends, Consumes, IsAtEnd, Keeps}
use Rattle.luks_io.specs.declared.DeviceFault.{DeviceFault}
use Rattle.luks_io.specs.declared.adapters.CallOutcome.{CallOutcome}
use Rattle.luks_io.specs.declared.adapters.CallOutcome.TheVariants.{Moved, Interrupted, Failed}
use Rattle.luks_io.specs.declared.counts.ReadCounts.{ReadCounts}

-- a device whose answers are these gave its next one
abbrev pub IsNextOf : List CallOutcome → CallOutcome → Option (List CallOutcome) → Type 0
IsNextOf [] answer after = Unit {0}
IsNextOf (first ∷ rest) answer after = (answer ≡ first) × (after ≡ Some rest)

-- one call: the device gave its next answer, if its answers are known
abbrev pub GivesNext : Option (List CallOutcome) → CallOutcome → Option (List CallOutcome) → Type 0
GivesNext before answer after = (known : List CallOutcome) → before ≡ Some known → IsNextOf known answer after

-- an interrupted call is retried at most this many times, then it counts as a failure
abbrev pub max_retries : ℕ
max_retries = 100

-- the result of a read that moved `count` bytes
abbrev pub read_result : ℕ → Result ℕ DeviceFault
read_result count = Ok count

-- the result of a write that moved `count` bytes, of a buffer that is not empty
abbrev pub write_result : ℕ → Result ℕ DeviceFault
write_result count = if count == 0 then Err record {} else Ok count

-- the result is that of the first answer that is not an interruption, or a failure after `tries` retries; no further
-- call is made
abbrev pub ReportsFirstOf : (ℕ → Result ℕ DeviceFault) → ℕ → List CallOutcome → Result ℕ DeviceFault
    → Option (List CallOutcome) → Type 0
ReportsFirstOf result_for tries [] reported after = Unit {0}
ReportsFirstOf result_for tries (Moved count ∷ rest) reported after =
    (reported ≡ result_for count) × (after ≡ Some rest)
ReportsFirstOf result_for tries (Failed ∷ rest) reported after = (reported ≡ Err record {}) × (after ≡ Some rest)
ReportsFirstOf result_for zero (Interrupted ∷ rest) reported after = (reported ≡ Err record {}) × (after ≡ Some rest)
ReportsFirstOf result_for (suc tries) (Interrupted ∷ rest) reported after =
    ReportsFirstOf result_for tries rest reported after

-- a device whose answers are known reports the first that is not an interruption, as above
abbrev pub ReportsFirst : (ℕ → Result ℕ DeviceFault) → Option (List CallOutcome) → ℕ → Result ℕ DeviceFault
    → Option (List CallOutcome) → Type 0
ReportsFirst result_for before tries reported after = (known : List CallOutcome) → before ≡ Some known
    → ReportsFirstOf result_for tries known reported after

-- `read(buf)`: the effect of its answer on the bytes, in the terms of std
abbrev pub OutcomeConsumes : Option (List ℕ) → Option (List ℕ) → CallOutcome → List ℕ → Type 0
OutcomeConsumes before after (Moved n) buf = (n ≤ length buf) × Consumes before after (take n buf)
    × (n ≡ 0 → 0 < length buf → IsAtEnd after)
OutcomeConsumes before after _ buf = Keeps before after

-- `write(buf)`: the effect of its answer on the bytes, in the terms of std
abbrev pub OutcomeAppends : Option (List ℕ) → Option (List ℕ) → CallOutcome → List ℕ → Type 0
OutcomeAppends before after (Moved n) buf = (n ≤ length buf) × Appends before after (take n buf)
OutcomeAppends before after _ buf = Keeps before after

-- a source over a reader: the reader, and the counts of the source's reads
pub record ReadSourceModel (D : Type 0) : Type 0 where
  pub reader : D
  pub counts : ReadCounts
