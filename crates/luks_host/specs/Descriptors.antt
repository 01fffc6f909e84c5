-- What stands in for a closed descriptor.
use Rattle.std.specs.Prelude.{◌≡◌, ℕ, ℤ, pos, ◌≤ℤ◌, List, Option, Some, None, Result, Ok, Err, codes}
use Rattle.luks_host.specs.declared.system.InputFault.{InputFault}

-- a file is kept if its number, as far as that is known, is at most 2
abbrev pub IsKeptUnder : {F : Type 0} → Option ℤ → F → Option F → Type 0
IsKeptUnder None file kept = Unit {0}
IsKeptUnder (Some number) file (Some kept) = (number ≤ℤ pos 2) × (kept ≡ file)
IsKeptUnder (Some number) file None = pos 3 ≤ℤ number

-- the file that was opened, if any, is kept if its number is at most 2
abbrev pub IsKept : {F : Type 0} → (F → Option ℤ) → Result F InputFault → Option F → Type 0
IsKept raw_fd (Ok file) kept = IsKeptUnder (raw_fd file) file kept
IsKept raw_fd (Err _) kept = kept ≡ None

-- `/dev/null`, if it was opened in the place of a closed descriptor
pub record IsStandIn {F : Type 0} (opens : List ℕ → Result F InputFault → Type 0) (raw_fd : F → Option ℤ)
    (kept : Option F) : Type 0 where
  pub file : Result F InputFault
  pub opened : opens (codes "/dev/null") file
  pub kept_if : IsKept raw_fd file kept
