-- The entry of a loop device, from the parts of its number.
use Rattle.std.proofs.Common.{◌≡◌, ℕ, Result, Ok, Err, IfOk, arith}
use Rattle.std.specs.Prelude.{string_bytes, String}
use Rattle.luks_host.specs.DeviceNumbers.{HasParts}
use Rattle.luks_host.specs.LoopDevices.{IsBackingEntry, backing_entry}

pub entry_of_parts : {A E : Type 0} (number major minor : ℕ) → HasParts number major minor
    → (entry : Result (String A) E) → IfOk entry (λ name. string_bytes name ≡ backing_entry major minor)
    → IfOk entry (λ name. IsBackingEntry number (string_bytes name))
entry_of_parts number major minor parts (Ok name) text =
    record { major = major; minor = minor; parts = parts; text = text }
entry_of_parts number major minor parts (Err _) text = tt

-- a device's number has one pair of parts
pub parts_unique : (number a b c d : ℕ) → HasParts number a b → HasParts number c d → (a ≡ c) × (b ≡ d)
parts_unique number a b c d one two = (
  omega (arith, one.encoded, one.major_fits, one.minor_fits, two.encoded, two.major_fits, two.minor_fits),
  omega (arith, one.encoded, one.major_fits, one.minor_fits, two.encoded, two.major_fits, two.minor_fits),
)
