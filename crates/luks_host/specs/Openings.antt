-- How inputs are opened, from what a system may answer.
use Rattle.std.specs.Prelude.{◌≡◌, ℕ, List, Bool, true, false, Option, Some, None, Result, Ok, Err, codes}
use Rattle.std.specs.declared.alloc.AllocError.{AllocError}
use Rattle.luks_host.specs.declared.open_input.OpenedInput.{OpenedInput}
use Rattle.luks_host.specs.declared.open_input.OpenedInput.TheVariants as Opened
use Rattle.luks_host.specs.declared.storage.FileFacts.{FileFacts}
use Rattle.luks_host.specs.declared.storage.FileKind.{FileKind}
use Rattle.luks_host.specs.declared.system.InputFault.{InputFault}
use Rattle.luks_host.specs.declared.system.InputFault.TheVariants.{NotOpened, Memory}
use Rattle.luks_host.specs.Inputs.{is_refused}
use Rattle.luks_host.specs.Targets.{Finds, Shows, TellsOutput}

-- whether an input of this kind is refused, if memory did not run out before it was known whether standard output
-- writes to it
abbrev pub refused_if : FileKind → Result Bool AllocError → Result Bool AllocError
refused_if kind (Ok is_output) = Ok (is_refused kind is_output)
refused_if kind (Err fault) = Err fault

-- whether the input with these facts is refused: by its kind, and by whether standard output writes to it
pub record KnowsRefused (finds : Finds) (shows : Shows) (input : FileFacts) (refused : Result Bool AllocError)
    : Type 0 where
  pub is_output : Result Bool AllocError
  pub told : TellsOutput finds shows input is_output
  pub by_kind : refused ≡ refused_if input.kind is_output

-- the outcome of opening an input
abbrev pub Opening : Type 0 → Type 0
Opening F = Result (OpenedInput F) InputFault

-- standard input, unless it is refused, or memory ran out before that was known
abbrev pub standard_by : {F : Type 0} → Result Bool AllocError → Opening F
standard_by (Ok true) = Err NotOpened
standard_by (Ok false) = Ok Opened.Standard
standard_by (Err _) = Err Memory

-- standard input with these facts; it opens if they are not known
abbrev pub OpensStandard : {F : Type 0} → Finds → Shows → Option FileFacts → Opening F → Type 0
OpensStandard finds shows (Some facts) opening =
    (refused : Result Bool AllocError) × KnowsRefused finds shows facts refused × (opening ≡ standard_by refused)
OpensStandard finds shows None opening = opening ≡ Ok Opened.Standard

-- how standard input is opened
pub record IsStandardInput {F : Type 0} (finds : Finds) (shows : Shows) (opening : Opening F) : Type 0 where
  pub facts : Option FileFacts
  pub found : finds (codes "/proc/self/fd/0") facts
  pub opened : OpensStandard finds shows facts opening

-- an open file, unless it is refused, or memory ran out before that was known
abbrev pub file_by : {F : Type 0} → Result Bool AllocError → F → Opening F
file_by (Ok true) file = Err NotOpened
file_by (Ok false) file = Ok (Opened.Named file)
file_by (Err _) file = Err Memory

-- an open file with these facts, or the fault if they are not known
abbrev pub OpensDescribed : {F : Type 0} → Finds → Shows → F → Result FileFacts InputFault → Opening F → Type 0
OpensDescribed finds shows file (Ok facts) opening =
    (refused : Result Bool AllocError) × KnowsRefused finds shows facts refused × (opening ≡ file_by refused file)
OpensDescribed finds shows file (Err fault) opening = opening ≡ Err fault

-- the file that was opened, with the facts that describe it, or the fault of opening it
abbrev pub OpensFile : {F : Type 0} → Finds → Shows → (F → Result FileFacts InputFault → Type 0) → Result F InputFault
    → Opening F → Type 0
OpensFile finds shows describes (Ok file) opening = (facts : Result FileFacts InputFault) × describes file facts
    × OpensDescribed finds shows file facts opening
OpensFile finds shows describes (Err fault) opening = opening ≡ Err fault

-- how the file with this name is opened
pub record IsNamedInput {F : Type 0} (finds : Finds) (shows : Shows) (opens : List ℕ → Result F InputFault → Type 0)
    (describes : F → Result FileFacts InputFault → Type 0) (name : List ℕ) (opening : Opening F) : Type 0 where
  pub file : Result F InputFault
  pub opened : opens name file
  pub described : OpensFile finds shows describes file opening
