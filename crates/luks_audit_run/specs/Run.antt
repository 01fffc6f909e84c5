-- What a run writes, and how it ends.
use Rattle.std.specs.Prelude.{◌≡◌, ℕ, ◌++◌, Bool, true, false, List, [], ◌∷◌, IfOk, Option, Result, Err, codes}
use Rattle.std.specs.Prelude.{flat_map, is_err, map, take}
use Rattle.luks_format.specs.Area.{is_read_fault}
use Rattle.luks_format.specs.declared.fault.HeaderFault.{HeaderFault}
use Rattle.luks_format.specs.declared.fault.HeaderFault.TheVariants.{Read, Memory}
use Rattle.luks_header.specs.Header.{header_of}
use Rattle.luks_header.specs.declared.header.Header.{Header}
use Rattle.luks_io.specs.Devices.{Appended, IfKnown, counted}
use Rattle.luks_audit.specs.Image.{IsSomeHeader, fault_line, line_by, state_by}
use Rattle.luks_audit.specs.Line.{error_value, head_of, line_text}
use Rattle.luks_audit.specs.declared.image.Policy.{Policy}
use Rattle.luks_audit.specs.declared.image.State.{State}
use Rattle.luks_audit.specs.declared.image.State.TheVariants.{Clean, Flawed, Unread}
use Rattle.luks_audit.specs.declared.line.Format.{Format}
use Rattle.luks_audit_run.specs.Host.{Stored}
use Rattle.luks_audit_run.specs.Host.Stored.{image, absent, unknown}
use Rattle.luks_audit_run.specs.Places.{places_below}
use Rattle.luks_audit_run.specs.Search.{IsNear}
use Rattle.luks_audit_run.specs.Searched.{graver, place_lines, searched_lines, searched_state}
use Rattle.luks_audit_run.specs.declared.host.ImageFault.{ImageFault}
use Rattle.luks_audit_run.specs.declared.host.ImageFault.TheVariants.{NotOpened, Memory as MemoryToOpen}
use Rattle.luks_audit_run.specs.declared.image.RunFault.{RunFault}
use Rattle.luks_audit_run.specs.declared.image.RunFault.TheVariants.{WriteFailed as Unwritten}
use Rattle.luks_audit_run.specs.declared.image.Scope.{Scope}
use Rattle.luks_audit_run.specs.declared.image.Scope.TheVariants.{Start, Everywhere}
use Rattle.luks_audit_run.specs.declared.run.Ending.{Ending}
use Rattle.luks_audit_run.specs.declared.run.Ending.TheVariants.{Done, OutOfMemory, WriteFailed}

-- ---- one image

-- how the audit of an image went: it was read as far as it has to be; it was not opened, for this reason; a read
-- failed, or memory ran out, when the search had tried this many sectors. If its bytes are not known: this header, or
-- this fault, was found at its start; or nobody can tell whether a read failed, what was written, and which state that
-- showed
pub data Course : Type 0 where
  whole : Course
  not_opened : ImageFault → Course
  not_read : ℕ → Course
  no_memory : ℕ → Course
  found : Result Header HeaderFault → Course
  untold : Bool → List ℕ → State → Course

-- what was written before the search was aborted
abbrev pub lines_before : Policy → Scope → List ℕ → List ℕ → ℕ → List ℕ
lines_before policy Start file bytes sector = []
lines_before policy Everywhere file bytes sector = place_lines policy file bytes (places_below bytes sector)

abbrev pub finished_text : Policy → Scope → List ℕ → List ℕ → List ℕ
finished_text policy Start file bytes = line_by policy file (header_of bytes)
finished_text policy Everywhere file bytes = searched_lines policy file bytes

abbrev pub finished_state : Policy → Scope → List ℕ → State
finished_state policy Start bytes = state_by policy (header_of bytes)
finished_state policy Everywhere bytes = searched_state policy bytes

-- the line of an image that was not opened
abbrev pub unopened_line : Format → List ℕ → ImageFault → List ℕ
unopened_line format file NotOpened = line_text format (error_value file (codes "cannot be opened"))
unopened_line format file MemoryToOpen = fault_line format file Memory

-- what is written of an image with these bytes
unfoldable pub image_text : Policy → Scope → List ℕ → List ℕ → Course → List ℕ
image_text policy scope file bytes whole = finished_text policy scope file bytes
image_text policy scope file bytes (not_opened fault) = unopened_line policy.format file fault
image_text policy scope file bytes (not_read sector) =
    lines_before policy scope file bytes sector ++ fault_line policy.format file Read
image_text policy scope file bytes (no_memory sector) =
    lines_before policy scope file bytes sector ++ fault_line policy.format file Memory
image_text policy scope file bytes (found header) = line_by policy file header
image_text policy scope file bytes (untold failed text state) = text

-- what its audit shows
unfoldable pub image_state : Policy → Scope → List ℕ → Course → State
image_state policy scope bytes whole = finished_state policy scope bytes
image_state policy scope bytes (not_opened fault) = Unread
image_state policy scope bytes (not_read sector) = Unread
image_state policy scope bytes (no_memory sector) = Unread
image_state policy scope bytes (found header) = state_by policy header
image_state policy scope bytes (untold failed text state) = state

-- a read of the image failed
abbrev pub is_failed : Course → Bool
is_failed (not_read sector) = true
is_failed (found header) = is_read_fault header
is_failed (untold failed text state) = failed
is_failed _ = false

-- what a search writes of an image is not known if nobody knows its bytes
abbrev pub IsSearched : Scope → Type 0
IsSearched Start = ⊥
IsSearched Everywhere = Unit {0}

-- the audit can go in this way: an image that is there is opened unless memory runs out, and an absent one is not
abbrev pub IsPossible : Scope → Stored → Course → Type 0
IsPossible scope (image bytes) (not_opened NotOpened) = ⊥
IsPossible scope (image bytes) (found header) = ⊥
IsPossible scope (image bytes) (untold failed text state) = ⊥
IsPossible scope (image bytes) _ = Unit {0}
IsPossible scope absent (not_opened fault) = Unit {0}
IsPossible scope absent _ = ⊥
IsPossible scope unknown (not_opened fault) = Unit {0}
IsPossible scope unknown (found header) = IsSomeHeader header
IsPossible scope unknown (untold failed text state) = IsSearched scope
IsPossible scope unknown _ = ⊥

-- when a search was aborted, it had come near the last byte that was read of the image: a header that begins more than
-- 32 MiB before that is listed
abbrev pub CameNear : Scope → List ℕ → Option (List ℕ) → Course → Type 0
CameNear Everywhere bytes left (not_read sector) = IsNear bytes sector left
CameNear Everywhere bytes left (no_memory sector) = IsNear bytes sector left
CameNear scope bytes left _ = Unit {0}

-- the bytes under a name
abbrev pub bytes_in : Stored → List ℕ
bytes_in (image bytes) = bytes
bytes_in absent = []
bytes_in unknown = []

-- ---- all images

-- an image's name, and the course of its audit
pub record Audited : Type 0 where
  pub file : List ℕ
  pub course : Course

-- the whole output: the first line, then each image's text, in order
unfoldable pub audit_text : Policy → Scope → (List ℕ → Stored) → List Audited → List ℕ
audit_text policy scope stored images =
    head_of policy.format
    ++ flat_map (λ one. image_text policy scope one.file (bytes_in (stored one.file)) one.course) images

-- the gravest state of all images
unfoldable pub gravest_state : Policy → Scope → (List ℕ → Stored) → List Audited → State
gravest_state policy scope stored [] = Clean
gravest_state policy scope stored (one ∷ images) =
    graver (image_state policy scope (bytes_in (stored one.file)) one.course) (gravest_state policy scope stored images)

-- the audit of each image can go in this way
unfoldable pub ArePossible : Scope → (List ℕ → Stored) → List Audited → Type 0
ArePossible scope stored [] = Unit {0}
ArePossible scope stored (one ∷ images) =
    IsPossible scope (stored one.file) one.course × ArePossible scope stored images

-- the number of images of which a read failed, after these images
unfoldable pub failures_after : ℕ → List Audited → ℕ
failures_after failures [] = failures
failures_after failures (one ∷ images) = failures_after (counted (is_failed one.course) failures) images

-- ---- what a run does

-- a text was written, or a prefix of it if writing was aborted
pub record Puts (before after : Option (List ℕ)) (text : List ℕ) (aborted : Bool) : Type 0 where
  pub part : List ℕ
  pub rest : List ℕ
  pub text_is : part ++ rest ≡ text
  pub written : Appended before after part
  pub all : aborted ≡ false → rest ≡ []

-- one image's text and state in a possible course of its audit
pub record Tells (policy : Policy) (scope : Scope) (stored : Stored) (file text : List ℕ) (failed : Bool)
    (state : State) : Type 0 where
  pub course : Course
  pub possible : IsPossible scope stored course
  pub failed_is : failed ≡ is_failed course
  pub text_is : text ≡ image_text policy scope file (bytes_in stored) course
  pub state_is : state ≡ image_state policy scope (bytes_in stored) course

-- the same for an open image. Unless the run was aborted, the search came near the last byte read
pub record TellsOpen (policy : Policy) (scope : Scope) (bytes : List ℕ) (left : Option (List ℕ)) (file text : List ℕ)
    (failed : Bool) (state : State) (aborted : Bool) : Type 0 where
  pub tells : Tells policy scope (image bytes) file text failed state
  pub near : aborted ≡ false → CameNear scope bytes left tells.course

-- an open image was audited, or that was aborted: what was written of it, and how many of its reads have failed now
pub record Audits (policy : Policy) (scope : Scope) (file : List ℕ) (known left : Option (List ℕ))
    (failures failures' : ℕ) (before after : Option (List ℕ)) (result : Result State RunFault) : Type 0 where
  pub text : List ℕ
  pub failed : Bool
  pub shown : State
  pub puts : Puts before after text (is_err result)
  pub failures_is : failures' ≡ counted failed failures
  pub shows : IfOk result (λ state. state ≡ shown)
  pub tells : IfKnown known (λ bytes. TellsOpen policy scope bytes left file text failed shown (is_err result))
  pub anyway : Tells policy scope unknown file text failed shown

-- an image was opened, audited and closed, or not opened; or that was aborted
pub record AuditsFile (policy : Policy) (scope : Scope) (file : List ℕ) (stored : Stored)
    (failures failures' : ℕ) (before after : Option (List ℕ)) (result : Result State RunFault) : Type 0 where
  pub text : List ℕ
  pub failed : Bool
  pub shown : State
  pub puts : Puts before after text (is_err result)
  pub failures_is : failures' ≡ counted failed failures
  pub shows : IfOk result (λ state. state ≡ shown)
  pub tells : Tells policy scope stored file text failed shown

-- these images were audited: their text was written, or a prefix of it after an abort; the state is the gravest; one
-- failed read is counted for each image whose text reports one
pub record Runs (policy : Policy) (scope : Scope) (stored : List ℕ → Stored) (files : List (List ℕ))
    (failures failures' : ℕ) (before after : Option (List ℕ)) (state : State) (aborted : Bool) : Type 0 where
  pub images : List Audited
  pub files_are : map (λ one. one.file) images ≡ files
  pub possible : ArePossible scope stored images
  pub puts : Puts before after (audit_text policy scope stored images) aborted
  pub state_is : state ≡ gravest_state policy scope stored images
  pub failed : failures' ≡ failures_after failures images

-- a run was aborted: it wrote a prefix of the text of the first `count` images
abbrev pub RunsPartly : Policy → Scope → (List ℕ → Stored) → List (List ℕ) → ℕ → ℕ → Option (List ℕ)
    → Option (List ℕ) → Type 0
RunsPartly policy scope stored files failures failures' before after =
    (count : ℕ) × (state : State)
    × Runs policy scope stored (take count files) failures failures' before after state true

-- a run ends in this way: everything was written, or it was aborted
abbrev pub EndsAudit : Policy → Scope → (List ℕ → Stored) → List (List ℕ) → ℕ → ℕ → Option (List ℕ)
    → Option (List ℕ) → Ending → Type 0
EndsAudit policy scope stored files failures failures' before after (Done state) =
    Runs policy scope stored files failures failures' before after state false
EndsAudit policy scope stored files failures failures' before after OutOfMemory =
    RunsPartly policy scope stored files failures failures' before after
EndsAudit policy scope stored files failures failures' before after WriteFailed =
    RunsPartly policy scope stored files failures failures' before after

-- a failed write is reported
abbrev pub is_unwritten : {T : Type 0} → Result T RunFault → Bool
is_unwritten (Err Unwritten) = true
is_unwritten _ = false

abbrev pub ends_unwritten : Ending → Bool
ends_unwritten WriteFailed = true
ends_unwritten _ = false

-- the exit status
abbrev pub ending_status : Ending → ℕ
ending_status (Done Clean) = 0
ending_status (Done Flawed) = 1
ending_status (Done Unread) = 4
ending_status OutOfMemory = 4
ending_status WriteFailed = 6
