-- Which inputs are refused. The bytes and the answers of an input are those of the reader that it holds.
use Rattle.std.specs.Prelude.{◌≡◌, ℕ, Bool, true, List, [], Option, Some, None}
use Rattle.luks_io.specs.declared.adapters.CallOutcome.{CallOutcome}
use Rattle.luks_io.specs.declared.adapters.CallOutcome.TheVariants.{Moved}
use Rattle.luks_host.specs.declared.input.Input.{Input}
use Rattle.luks_host.specs.declared.input.Input.TheVariants.{Named, Standard, Empty}
use Rattle.luks_host.specs.declared.storage.FileKind.{FileKind}
use Rattle.luks_host.specs.declared.storage.FileKind.TheVariants.{Directory}

-- an input is refused if it is a directory, and if standard output writes to it
abbrev pub is_refused : FileKind → Bool → Bool
is_refused Directory is_output = true
is_refused kind is_output = is_output

-- the remaining bytes
abbrev pub remaining_of : {F S : Type 0} → (F → Option (List ℕ)) → (S → Option (List ℕ)) → Input F S → Option (List ℕ)
remaining_of named standard (Named reader) = named reader
remaining_of named standard (Standard reader) = standard reader
remaining_of named standard Empty = Some []

-- the answers of the calls from here on
abbrev pub answers_of : {F S : Type 0} → (F → Option (List CallOutcome)) → (S → Option (List CallOutcome)) → Input F S
    → Option (List CallOutcome)
answers_of named standard (Named reader) = named reader
answers_of named standard (Standard reader) = standard reader
answers_of named standard Empty = None

-- an input is of the same kind as before
abbrev pub HasSameKind : {F S : Type 0} → Input F S → Input F S → Type 0
HasSameKind (Named _) (Named _) = Unit {0}
HasSameKind (Standard _) (Standard _) = Unit {0}
HasSameKind Empty Empty = Unit {0}
HasSameKind _ _ = ⊥

-- the answer of an input without a reader: its end
abbrev pub HasEnded : {F S : Type 0} → Input F S → CallOutcome → Type 0
HasEnded Empty answer = answer ≡ Moved 0
HasEnded _ answer = Unit {0}
