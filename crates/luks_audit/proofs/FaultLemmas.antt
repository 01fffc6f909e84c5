-- Images without a header.
use Rattle.std.proofs.Common.{◌≡◌, ◌∙◌, ℕ, Bool, List, Option, Err, ap, inl, inr, refl, sym}
use Rattle.luks_io.specs.Counts.{Reads}
use Rattle.luks_io.specs.Devices.{IfKnown}
use Rattle.luks_io.specs.declared.counts.ReadCounts.{ReadCounts}
use Rattle.luks_format.specs.Area.{is_read_fault}
use Rattle.luks_format.specs.declared.fault.HeaderFault.{HeaderFault}
use Rattle.luks_format.specs.declared.fault.HeaderFault.TheVariants.{NotLuks, Cut, Json, Read, Memory}
use Rattle.luks_header.specs.Header.{ReadsNoHeader}
use Rattle.luks_audit.specs.Image.{IsAudited, IsAuditedAnyway, fault_line, fault_state, line_by, state_by}
use Rattle.luks_audit.specs.declared.image.Policy.{Policy}
use Rattle.luks_audit.specs.declared.image.State.{State}

module _ (policy : Policy) (file line : List ℕ) (state : State) where
  fault_audited : (image : List ℕ) (left : Option (List ℕ)) (ends ends' : ℕ) (fault : HeaderFault)
      → ReadsNoHeader image left ends ends' fault → line ≡ fault_line policy.format file fault
      → state ≡ fault_state fault → IsAudited (is_read_fault {T = Unit {0}} (Err fault)) policy file image line state
  fault_audited image left ends ends' Read none written shown = (written, shown)
  fault_audited image left ends ends' Memory none written shown = inr (written, shown)
  fault_audited image left ends ends' NotLuks none written shown =
      inl (written ∙ ap (line_by policy file) (sym none.0), shown ∙ ap (state_by policy) (sym none.0))
  fault_audited image left ends ends' Cut none written shown =
      inl (written ∙ ap (line_by policy file) (sym none.0), shown ∙ ap (state_by policy) (sym none.0))
  fault_audited image left ends ends' Json none written shown =
      inl (written ∙ ap (line_by policy file) (sym none.0), shown ∙ ap (state_by policy) (sym none.0))

  -- the line of a fault was made
  pub fault_reads : (known left : Option (List ℕ)) (ends ends' : ℕ) (fault : HeaderFault) (ended : Bool)
      (before after : ReadCounts) → Reads (is_read_fault {T = Unit {0}} (Err fault)) ended before after
      → IfKnown known (λ image. ReadsNoHeader image left ends ends' fault)
      → line ≡ fault_line policy.format file fault → state ≡ fault_state fault
      → (failed : Bool) × (ended : Bool) × Reads failed ended before after
      × IfKnown known (λ image. IsAudited failed policy file image line state)
      × IsAuditedAnyway failed policy file line state
  fault_reads known left ends ends' fault ended before after reads none written shown = (
    is_read_fault {T = Unit {0}} (Err fault),
    ended,
    reads,
    λ image is. fault_audited image left ends ends' fault (none image is) written shown,
    record { found = Err fault; some = tt; failed_is = refl; audited = (written, shown) },
  )
