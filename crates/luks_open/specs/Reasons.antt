-- The reasons to skip a key slot that only a program with Argon2 has, and faults without them.
use Rattle.std.specs.Prelude.{◌≡◌, ℕ, Bool, true, false, List}
use Rattle.std.specs.List.{AllByRecursion}
use Rattle.luks_format.specs.declared.refusal.SkipReason.{SkipReason}
use Rattle.luks_format.specs.declared.refusal.SkipReason.TheVariants.{Argon2Time, Argon2Cpus, Argon2Memory}
use Rattle.luks_format.specs.declared.refusal.SkipReason.TheVariants.{Argon2MemoryLimit, Argon2FillLimit}
use Rattle.luks_open.specs.declared.fault.OpenFault.{OpenFault}
use Rattle.luks_open.specs.declared.fault.OpenFault.TheVariants.{NamedSkipped, NoKey, NothingTried}
use Rattle.luks_open.specs.declared.fault.VolumeFault.{VolumeFault}
use Rattle.luks_open.specs.declared.fault.VolumeFault.TheVariants.{Argon2Memory as MemoryRefused, Slots}

-- the reason is one that only a program with Argon2 has
abbrev pub is_of_argon2 : SkipReason → Bool
is_of_argon2 Argon2Time = true
is_of_argon2 Argon2Cpus = true
is_of_argon2 Argon2Memory = true
is_of_argon2 (Argon2MemoryLimit kib) = true
is_of_argon2 (Argon2FillLimit kib) = true
is_of_argon2 _ = false

-- no key slot is skipped for such a reason
abbrev pub NoneOfArgon2 : List (ℕ × SkipReason) → Type 0
NoneOfArgon2 skipped = AllByRecursion (λ (skip : ℕ × SkipReason). is_of_argon2 skip.1 ≡ false) skipped

-- the fault of opening names no such reason
abbrev pub OpensWithoutArgon2 : OpenFault → Type 0
OpensWithoutArgon2 (NamedSkipped slot reason) = is_of_argon2 reason ≡ false
OpensWithoutArgon2 (NothingTried skipped) = NoneOfArgon2 skipped
OpensWithoutArgon2 (NoKey skipped) = NoneOfArgon2 skipped
OpensWithoutArgon2 _ = Unit {0}

-- the fault names no such reason, and is not that memory for Argon2 was refused
abbrev pub FaultWithoutArgon2 : VolumeFault → Type 0
FaultWithoutArgon2 (Slots fault) = OpensWithoutArgon2 fault
FaultWithoutArgon2 (MemoryRefused slot memory) = ⊥
FaultWithoutArgon2 _ = Unit {0}
