-- What is printed of an image, and what its audit shows.
use Rattle.std.specs.Prelude.{◌≡◌, ◌⊎◌, ℕ, Bool, true, false, List, Result, Ok, Err, if◌then◌else◌}
use Rattle.luks_format.specs.Area.{is_read_fault}
use Rattle.luks_format.specs.declared.fault.HeaderFault.{HeaderFault}
use Rattle.luks_format.specs.declared.fault.HeaderFault.TheVariants.{NotLuks, Cut, Json, Read, Memory}
use Rattle.luks_header.specs.Header.{header_of}
use Rattle.luks_header.specs.declared.header.Header.{Header}
use Rattle.luks_audit.specs.Audit.{audit_value, is_clean}
use Rattle.luks_report.specs.HeaderFault.{fault_listed}
use Rattle.luks_audit.specs.Line.{error_value, line_text}
use Rattle.luks_audit.specs.declared.image.Policy.{Policy}
use Rattle.luks_audit.specs.declared.image.State.{State}
use Rattle.luks_audit.specs.declared.image.State.TheVariants.{Clean, Flawed, Unread}
use Rattle.luks_audit.specs.declared.line.Format.{Format}

-- an image without a header is flawed; one that was not read is neither clean nor flawed
abbrev pub fault_state : HeaderFault → State
fault_state NotLuks = Flawed
fault_state Cut = Flawed
fault_state Json = Flawed
fault_state Read = Unread
fault_state Memory = Unread

abbrev pub header_state : Policy → Header → State
header_state policy header = if is_clean policy header then Clean else Flawed

-- the line of an image without a header
abbrev pub fault_line : Format → List ℕ → HeaderFault → List ℕ
fault_line format file fault = line_text format (error_value file (fault_listed fault))

-- the line of a header
abbrev pub header_line : Policy → List ℕ → ℕ → Header → List ℕ
header_line policy file offset header = line_text policy.format (audit_value policy.minimum file offset header)

-- the line of an image, and what its audit shows
abbrev pub line_by : Policy → List ℕ → Result Header HeaderFault → List ℕ
line_by policy file (Ok header) = header_line policy file 0 header
line_by policy file (Err fault) = fault_line policy.format file fault

abbrev pub state_by : Policy → Result Header HeaderFault → State
state_by policy (Ok header) = header_state policy header
state_by policy (Err fault) = fault_state fault

-- the line and the state are those of this header, or of the fault in its place
abbrev pub IsAuditedBy : Policy → List ℕ → Result Header HeaderFault → List ℕ → State → Type 0
IsAuditedBy policy file header line state = (line ≡ line_by policy file header) × (state ≡ state_by policy header)

-- the image was audited as its header says, or memory ran out; if a read failed, the line says that
abbrev pub IsAudited : Bool → Policy → List ℕ → List ℕ → List ℕ → State → Type 0
IsAudited true policy file image line state = IsAuditedBy policy file (Err Read) line state
IsAudited false policy file image line state =
    IsAuditedBy policy file (header_of image) line state ⊎ IsAuditedBy policy file (Err Memory) line state

-- a header that some bytes have, or a fault
abbrev pub IsSomeHeader : Result Header HeaderFault → Type 0
IsSomeHeader (Ok header) = (bytes : List ℕ) × (header_of bytes ≡ Ok header)
IsSomeHeader (Err fault) = Unit {0}

-- whether or not the bytes of the image are known, it was audited as such a header says, or a fault; if and only if a
-- read failed, that is the fault
pub record IsAuditedAnyway (failed : Bool) (policy : Policy) (file line : List ℕ) (state : State) : Type 0 where
  pub found : Result Header HeaderFault
  pub some : IsSomeHeader found
  pub failed_is : failed ≡ is_read_fault found
  pub audited : IsAuditedBy policy file found line state
