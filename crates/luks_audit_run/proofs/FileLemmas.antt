-- The audit of an image under a name.
use Rattle.std.proofs.Common.{rules}
use Rattle.std.proofs.lemmas.Grind.{common_steps}
use Rattle.std.proofs.Common.{arith}
use Rattle.std.proofs.Common.{◌≡◌, ◌∙◌, ℕ, List, Option, Result, Ok, Err, refl, ap, Bool, true, false}
use Rattle.std.specs.Prelude.{IfOk, is_err, nat_lt}
use Rattle.luks_io.specs.Devices.{IfKnown, counted}
use Rattle.luks_audit.specs.declared.image.Policy.{Policy}
use Rattle.luks_audit.specs.declared.image.State.{State}
use Rattle.luks_audit.specs.declared.image.State.TheVariants.{Unread}
use Rattle.luks_audit_run.specs.Host.{OpensAs, Stored}
use Rattle.luks_audit_run.specs.Host.Stored.{image, absent, unknown}
use Rattle.luks_audit_run.specs.Run.{Audits, AuditsFile, Puts, Tells, TellsOpen}
use Rattle.luks_audit_run.specs.Run.{image_state, image_text, unopened_line}
use Rattle.luks_audit_run.specs.Run.Course.{not_opened}
use Rattle.luks_audit_run.specs.declared.host.ImageFault.{ImageFault}
use Rattle.luks_audit_run.specs.declared.host.ImageFault.TheVariants.{NotOpened, Memory}
use Rattle.luks_audit_run.specs.declared.image.RunFault.{RunFault}
use Rattle.luks_audit_run.specs.declared.image.Scope.{Scope}

module _ (policy : Policy) (scope : Scope) (file : List ℕ) where
  -- an opened one
  opened_tells : {I : Type 0} (to_come : I → Option (List ℕ)) (stored : Stored) (source : I) (text : List ℕ)
      (left : Option (List ℕ)) (failed : Bool) (state : State) (aborted : Bool) → OpensAs to_come stored (Ok source)
      → IfKnown (to_come source) (λ bytes. TellsOpen policy scope bytes left file text failed state aborted)
      → Tells policy scope unknown file text failed state
      → Tells policy scope stored file text failed state
  opened_tells to_come (image bytes) source text left failed state aborted opens told anyway = (told bytes opens).tells
  opened_tells to_come absent source text left failed state aborted opens told anyway = absurd opens
  opened_tells to_come unknown source text left failed state aborted opens told anyway = anyway

  -- one that was not opened
  pub unopened_tells : {I : Type 0} (to_come : I → Option (List ℕ)) (stored : Stored) (fault : ImageFault)
      → OpensAs to_come stored (Err fault)
      → Tells policy scope stored file (unopened_line policy.format file fault) false Unread
  unfolding image_text image_state
  unopened_tells to_come (image bytes) NotOpened opens = absurd opens
  unopened_tells to_come (image bytes) Memory opens =
      record { course = not_opened Memory; possible = tt; failed_is = refl; text_is = refl; state_is = refl }
  unopened_tells to_come absent fault opens =
      record { course = not_opened fault; possible = tt; failed_is = refl; text_is = refl; state_is = refl }
  unopened_tells to_come unknown fault opens =
      record { course = not_opened fault; possible = tt; failed_is = refl; text_is = refl; state_is = refl }

-- an image that was not read before is counted if one of its reads has failed
pub failed_count : (failed : Bool) (before after : ℕ) → before ≡ 0 → after ≡ counted failed before
    → nat_lt 0 after ≡ failed
failed_count true before after none is = ap (nat_lt 0) (is ∙ ap (counted true) none)
failed_count false before after none is = ap (nat_lt 0) (is ∙ none)

-- by the host, when it is closed
closed_count : (failed : Bool) (failures failures1 failures2 reads reads' : ℕ) → reads ≡ 0 → failures1 ≡ failures
    → failures2 ≡ counted (nat_lt 0 reads') failures1 → reads' ≡ counted failed reads
    → failures2 ≡ counted failed failures
closed_count failed failures failures1 failures2 reads reads' none same closed is = search (rules, failed_count)

module _ (policy : Policy) (scope : Scope) (file : List ℕ) where
  -- an image was opened, audited and closed, or that was aborted
  pub file_opened : {I : Type 0} (to_come : I → Option (List ℕ)) (stored : Stored) (source : I)
      (left : Option (List ℕ)) (failures failures1 failures2 reads reads' : ℕ) (before after : Option (List ℕ))
      (result : Result State RunFault) → OpensAs to_come stored (Ok source) → reads ≡ 0 → failures1 ≡ failures
      → failures2 ≡ counted (nat_lt 0 reads') failures1
      → Audits policy scope file (to_come source) left reads reads' before after result
      → AuditsFile policy scope file stored failures failures2 before after result
  file_opened to_come stored source left failures failures1 failures2 reads reads' before after result opens none same
      closed audited = record {
        text = audited.text;
        failed = audited.failed;
        shown = audited.shown;
        puts = audited.puts;
        failures_is = grind (arith, common_steps, closed_count);
        shows = audited.shows;
        tells = opened_tells policy scope file to_come stored source audited.text left audited.failed audited.shown
            (is_err result) opens audited.tells audited.anyway;
      }

  -- it was not opened
  pub file_unopened : {I : Type 0} (to_come : I → Option (List ℕ)) (stored : Stored) (fault : ImageFault)
      (failures failures1 : ℕ) (before after : Option (List ℕ)) (result : Result State RunFault)
      → OpensAs to_come stored (Err fault) → failures1 ≡ failures
      → Puts before after (unopened_line policy.format file fault) (is_err result)
      → IfOk result (λ state. state ≡ Unread)
      → AuditsFile policy scope file stored failures failures1 before after result
  file_unopened to_come stored fault failures failures1 before after result opens same puts shows =
      grind (arith, common_steps, unopened_tells)
