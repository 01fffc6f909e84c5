use Rattle.std.proofs.Common.{◌∙◌, Ok, ap, false, inl, refl, sym}
use Rattle.luks_audit.proofs.FaultLemmas.{fault_reads}
use Rattle.luks_audit.specs.Image.{line_by, state_by}
use Rattle.luks_audit.proofs.image.audit_image.Goals as goal

pub returns-in-Ok-clause-audited : goal.returns-in-Ok-clause-audited
returns-in-Ok-clause-audited g c =
    let reads = c.in-Ok.ensures.reads in
    let made = c.in_ok-made-in-Ok.ensures in (
      false,
      reads.0,
      reads.1,
      λ image is.
          let header = (c.in-Ok.ensures.consumed image is).0 in
          inl (
            made.0 ∙ ap (line_by c.args.policy c.args.file.now) (sym header),
            made.1 ∙ ap (state_by c.args.policy) (sym header),
          ),
      record {
        found = Ok c.in-Ok.header;
        some = (c.in-Ok.field-0-1.bytes, c.in-Ok.ensures.of_area);
        failed_is = refl;
        audited = made;
      },
    )

pub returns-clause-audited : goal.returns-clause-audited
returns-clause-audited g c =
    fault_reads c.args.policy c.args.file.now _ _ _ _ _ _ c.in-Err.fault _ _ _ c.in-Err.ensures.reads.1
    c.in-Err.ensures.no_header c.in_ok-line-in-Err.ensures c.fault_state.ensures
