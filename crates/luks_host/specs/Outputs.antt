-- The output of a run below its buffer, and how its flush succeeds.
use Rattle.std.specs.Prelude.{◌≡◌, ℕ, Bool, List, [], ◌∷◌, Option, Some, Result, Ok, Err}
use Rattle.luks_io.specs.declared.DeviceFault.{DeviceFault}

-- a device whose flushes have these answers gave the next of them
abbrev pub IsNextFlush : List Bool → Bool → Option (List Bool) → Type 0
IsNextFlush [] answer after = Unit {0}
IsNextFlush (first ∷ rest) answer after = (answer ≡ first) × (after ≡ Some rest)

-- one flush: the device gave its next answer, if its answers are known
abbrev pub GivesFlush : Option (List Bool) → Bool → Option (List Bool) → Type 0
GivesFlush before answer after = (known : List Bool) → before ≡ Some known → IsNextFlush known answer after

-- a writer that retries: the writer below, and whether a write has failed
pub record RetryingModel (D : Type 0) : Type 0 where
  pub writer : D
  pub failed : Bool

-- a result of std, with a failure of any kind as a device's fault
abbrev pub reported_of : {E : Type 0} → Result ℕ E → Result ℕ DeviceFault
reported_of (Ok count) = Ok count
reported_of (Err _) = Err record {}
