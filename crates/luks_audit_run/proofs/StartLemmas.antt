-- The audit of an image at whose start a header is sought.
use Rattle.std.proofs.Common.{rules}
use Rattle.std.proofs.lemmas.Grind.{common_steps}
use Rattle.std.proofs.Common.{arith}
use Rattle.std.proofs.Common.{◌≡◌, ℕ, List, Option, Result, Err, refl, Bool, true, false, inl, inr}
use Rattle.std.specs.Prelude.{IfOk, is_err}
use Rattle.luks_io.specs.Devices.{IfKnown, counted}
use Rattle.luks_format.specs.declared.fault.HeaderFault.{HeaderFault}
use Rattle.luks_format.specs.declared.fault.HeaderFault.TheVariants.{Memory, Read}
use Rattle.luks_audit.specs.Image.{IsAudited, IsAuditedAnyway, fault_line}
use Rattle.luks_audit.specs.declared.image.Policy.{Policy}
use Rattle.luks_audit.specs.declared.image.State.{State}
use Rattle.luks_audit.specs.declared.image.State.TheVariants.{Unread}
use Rattle.luks_audit_run.specs.Host.Stored.{image, unknown}
use Rattle.luks_audit_run.specs.Run.{Audits, Puts, Tells, image_state, image_text}
use Rattle.luks_audit_run.specs.Run.Course.{not_read, no_memory, found as some_found}
use Rattle.luks_audit_run.specs.declared.image.RunFault.{RunFault}
use Rattle.luks_audit_run.specs.declared.image.Scope.TheVariants.{Start}

-- what was written of an image at whose start a header was sought
pub start_tells : (failed : Bool) (policy : Policy) (file bytes line : List ℕ) (state : State)
    → IsAudited failed policy file bytes line state → Tells policy Start (image bytes) file line failed state
unfolding image_text image_state
start_tells false policy file bytes line state (inl audited) = grind (arith, common_steps)
start_tells false policy file bytes line state (inr audited) = record {
  course = no_memory 0;
  possible = tt;
  failed_is = refl;
  text_is = audited.0;
  state_is = audited.1;
}
start_tells true policy file bytes line state audited = record {
  course = not_read 0;
  possible = tt;
  failed_is = refl;
  text_is = audited.0;
  state_is = audited.1;
}

-- its bytes need not be known
pub start_anyway : (failed : Bool) (policy : Policy) (file line : List ℕ) (state : State)
    → IsAuditedAnyway failed policy file line state → Tells policy Start unknown file line failed state
unfolding image_text image_state
start_anyway failed policy file line state anyway = record {
  course = some_found anyway.found;
  possible = anyway.some;
  failed_is = anyway.failed_is;
  text_is = anyway.audited.0;
  state_is = anyway.audited.1;
}

-- the fault of an audit that was aborted before there was a line
abbrev pub unmade_fault : Bool → HeaderFault
unmade_fault true = Read
unmade_fault false = Memory

pub unmade : (failed : Bool) (policy : Policy) (file bytes : List ℕ)
    → IsAudited failed policy file bytes (fault_line policy.format file (unmade_fault failed)) Unread
unmade true policy file bytes = (refl, refl)
unmade false policy file bytes = inr (refl, refl)

pub unmade_anyway : (failed : Bool) (policy : Policy) (file : List ℕ)
    → IsAuditedAnyway failed policy file (fault_line policy.format file (unmade_fault failed)) Unread
unmade_anyway true policy file =
    record { found = Err Read; some = tt; failed_is = refl; audited = (refl, refl) }
unmade_anyway false policy file =
    record { found = Err Memory; some = tt; failed_is = refl; audited = (refl, refl) }

-- the line was written, or writing it was aborted, however much of the image was read
pub start_audits : (policy : Policy) (file : List ℕ) (known left : Option (List ℕ)) (failures failures' : ℕ)
    (before after : Option (List ℕ)) (failed : Bool) (line : List ℕ) (state : State) (result : Result State RunFault)
    → failures' ≡ counted failed failures
    → IfKnown known (λ bytes. IsAudited failed policy file bytes line state)
    → IsAuditedAnyway failed policy file line state → Puts before after line (is_err result)
    → IfOk result (λ shown. shown ≡ state)
    → Audits policy Start file known left failures failures' before after result
start_audits policy file known left failures failures' before after failed line state result same audited anyway puts
    shows = search (rules, start_tells, start_anyway)
