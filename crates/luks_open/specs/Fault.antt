-- What the faults of opening a volume say.
use Rattle.std.specs.Prelude.{Bool, false, true, Result, Ok, Err}
use Rattle.luks_format.specs.declared.fault.HeaderFault.TheVariants.{Read as HeaderRead, Memory as HeaderMemory}
use Rattle.luks_open.specs.declared.fault.OpenFault.TheVariants.{Memory, NoKey}
use Rattle.luks_open.specs.declared.fault.PassphraseFault.{PassphraseFault}
use Rattle.luks_open.specs.declared.fault.PassphraseFault.TheVariants.{Read as PassphraseRead}
use Rattle.luks_open.specs.declared.fault.PassphraseFault.TheVariants.{Memory as PassphraseMemory}
use Rattle.luks_open.specs.declared.fault.VolumeFault.{VolumeFault}
use Rattle.luks_open.specs.declared.fault.VolumeFault.TheVariants.{Argon2Memory, Header, Passphrase, Slots}

-- a read of the passphrase failed
abbrev pub is_passphrase_read_failure : PassphraseFault → Bool
is_passphrase_read_failure PassphraseRead = true
is_passphrase_read_failure _ = false

-- a read failed
abbrev pub is_read_failure : VolumeFault → Bool
is_read_failure (Header HeaderRead) = true
is_read_failure (Passphrase fault) = is_passphrase_read_failure fault
is_read_failure _ = false

-- a read failed, or memory ran out
abbrev pub aborts_opening : VolumeFault → Bool
aborts_opening (Header HeaderRead) = true
aborts_opening (Header HeaderMemory) = true
aborts_opening (Passphrase PassphraseRead) = true
aborts_opening (Passphrase PassphraseMemory) = true
aborts_opening (Slots Memory) = true
aborts_opening (Argon2Memory _ _) = true
aborts_opening _ = false

-- the fault was found before any key slot was tried
abbrev pub is_untried : VolumeFault → Bool
is_untried (Slots (NoKey _)) = false
is_untried (Argon2Memory _ _) = false
is_untried _ = true

-- the result is a fault of this kind
abbrev pub has_fault : {T F : Type 0} → (F → Bool) → Result T F → Bool
has_fault is_kind (Ok _) = false
has_fault is_kind (Err fault) = is_kind fault
