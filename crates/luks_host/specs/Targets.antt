-- Whether standard output writes to a file, from what a system may answer.
use Rattle.std.specs.Prelude.{◌≡◌, ◌≢◌, ◌⊎◌, ◌↔◌, ◌++◌, ◌∷◌, [], ℕ, List, Bool}
use Rattle.std.specs.Prelude.{false, Option, Some, None, Result, Ok, Err, IsTrue, codes}
use Rattle.std.specs.declared.alloc.AllocError.{AllocError}
use Rattle.luks_host.specs.declared.storage.FileFacts.{FileFacts}
use Rattle.luks_host.specs.declared.storage.FileKind.{FileKind}
use Rattle.luks_host.specs.declared.storage.FileKind.TheVariants.{Regular, Directory, BlockDevice, Other}
use Rattle.luks_host.specs.declared.storage.SeenFile.{SeenFile}
use Rattle.luks_host.specs.LoopDevices.{IsBackingEntry}
use Rattle.luks_host.specs.Storages.{SharesStorage}

-- whether a system may find this under a name: the facts of a file, or none
abbrev pub Finds : Type 1
Finds = List ℕ → Option FileFacts → Type 0

-- whether a system may show this under a name: the text of a file, or none
abbrev pub Shows : Type 1
Shows = List ℕ → Option (List ℕ) → Type 0

-- the file whose name is in this text, before the only newline at the text's end; none without that newline
abbrev pub IsNamedIn : Finds → List ℕ → Option FileFacts → Type 0
IsNamedIn finds text below = ((name : List ℕ) × (text ≡ name ++ 10 ∷ []) × finds name below)
    ⊎ (((name : List ℕ) → text ≢ name ++ 10 ∷ []) × (below ≡ None))

-- the file whose name is in this text, if there is a text
abbrev pub IsNamedInAny : Finds → Option (List ℕ) → Option FileFacts → Type 0
IsNamedInAny finds (Some text) below = IsNamedIn finds text below
IsNamedInAny finds None below = below ≡ None

-- the file that an entry of `/sys` names
pub record IsBelowEntry (finds : Finds) (shows : Shows) (entry : List ℕ) (below : Option FileFacts) : Type 0 where
  pub text : Option (List ℕ)
  pub shown : shows entry text
  pub named : IsNamedInAny finds text below

-- the file under the block device with this number, by its entry; or memory ran out for the entry's name or text
abbrev pub IsBelowDevice : Finds → Shows → ℕ → Result (Option FileFacts) AllocError → Type 0
IsBelowDevice finds shows number (Ok below) =
    (entry : List ℕ) × IsBackingEntry number entry × IsBelowEntry finds shows entry below
IsBelowDevice finds shows number (Err _) = Unit {0}

-- the file under a file of this kind and number: only a block device has one
abbrev pub IsBelowKind : Finds → Shows → FileKind → ℕ → Result (Option FileFacts) AllocError → Type 0
IsBelowKind finds shows BlockDevice number below = IsBelowDevice finds shows number below
IsBelowKind finds shows Regular number below = below ≡ Ok None
IsBelowKind finds shows Directory number below = below ≡ Ok None
IsBelowKind finds shows Other number below = below ≡ Ok None

-- the file with these facts, and what is under it; or memory ran out for that, as only for a block device
abbrev pub IsSeen : Finds → Shows → FileFacts → Result SeenFile AllocError → Type 0
IsSeen finds shows facts (Ok seen) =
    (seen.facts ≡ facts) × IsBelowKind finds shows facts.kind facts.number (Ok seen.backing)
IsSeen finds shows facts (Err _) = facts.kind ≡ BlockDevice

-- whether two files, as they are seen, store their bytes in one storage
pub record SharesSeen (finds : Finds) (shows : Shows) (input output : FileFacts) (answer : Bool) : Type 0 where
  pub a : SeenFile
  pub b : SeenFile
  pub input_seen : IsSeen finds shows input (Ok a)
  pub output_seen : IsSeen finds shows output (Ok b)
  pub shared : IsTrue answer ↔ SharesStorage a b

-- whether an input shares its storage with this target of standard output; not if the target cannot be looked at.
-- Memory runs out only if one of them is a block device
abbrev pub SharesTarget : Finds → Shows → FileFacts → Option FileFacts → Result Bool AllocError → Type 0
SharesTarget finds shows input (Some output) (Ok answer) = SharesSeen finds shows input output answer
SharesTarget finds shows input (Some output) (Err _) = (input.kind ≡ BlockDevice) ⊎ (output.kind ≡ BlockDevice)
SharesTarget finds shows input None answer = answer ≡ Ok false

-- whether standard output writes to the input with these facts
pub record TellsOutput (finds : Finds) (shows : Shows) (input : FileFacts) (answer : Result Bool AllocError)
    : Type 0 where
  pub output : Option FileFacts
  pub found : finds (codes "/proc/self/fd/1") output
  pub shared : SharesTarget finds shows input output answer

-- whether standard output writes to an input with these facts; not if there are none
abbrev pub TellsOutputIf : Finds → Shows → Option FileFacts → Result Bool AllocError → Type 0
TellsOutputIf finds shows (Some facts) answer = TellsOutput finds shows facts answer
TellsOutputIf finds shows None answer = answer ≡ Ok false

-- whether standard output writes to the file with this name
pub record TellsOutputAt (finds : Finds) (shows : Shows) (name : List ℕ) (answer : Result Bool AllocError)
    : Type 0 where
  pub facts : Option FileFacts
  pub found : finds name facts
  pub told : TellsOutputIf finds shows facts answer
