use Rattle.std.proofs.Common.{◌≡◌, Ok, Err, rules, arith, refl, sym}
use Rattle.std.proofs.lemmas.Bool.{ne_eqb}
use Rattle.luks_io.specs.CallOutcomes.{write_result}
use Rattle.luks_io.specs.declared.adapters.CallOutcome.TheVariants.{Failed, Moved}
use Rattle.luks_io.proofs.Reporting.{reports_again, reports_from, reports_last}
use Rattle.luks_io.proofs.adapters.writing.write_patiently.Goals as goal

pub tries-preserved : goal.tries-preserved
tries-preserved g c = record {
  reported = λ reported after rest. c.tries.invariant.reported reported after
      (reports_again write_result _ _ reported after c.tries.tries (omega arith) c.in-Interrupted.ensures.next rest);
  kept = search rules;
}

pub returns-in-Interrupted-2-clause-reported : goal.returns-in-Interrupted-2-clause-reported
returns-in-Interrupted-2-clause-reported g c some =
    c.tries.invariant.reported _ _ (reports_last write_result _ _ c.tries.tries (omega arith)
    c.in-Interrupted.ensures.next)

pub returns-in-Failed-clause-reported : goal.returns-in-Failed-clause-reported
returns-in-Failed-clause-reported g c some =
    c.tries.invariant.reported _ _
    (reports_from write_result _ _ _ _ c.tries.tries Failed (λ rest left. (refl, left)) c.in-Failed.ensures.next)

pub returns-in-Moved-eq0-clause-reported : goal.returns-in-Moved-eq0-clause-reported
returns-in-Moved-eq0-clause-reported g c some =
    let none : write_result c.in-Moved-eq0.field-0 ≡ Err record {} = rw c.in-Moved-eq0.field-0-test refl in
    c.tries.invariant.reported _ _
    (reports_from write_result _ _ _ _ c.tries.tries (Moved c.in-Moved-eq0.field-0) (λ rest left. (sym none, left))
    c.in-Moved-eq0.ensures.next)

pub returns-in-Moved-clause-reported : goal.returns-in-Moved-clause-reported
returns-in-Moved-clause-reported g c some =
    let moved : write_result c.in-Moved.count
    ≡ Ok c.in-Moved.count = rw (ne_eqb c.in-Moved.count 0 c.in-Moved.count-test.1) refl in
    c.tries.invariant.reported _ _
    (reports_from write_result _ _ _ _ c.tries.tries (Moved c.in-Moved.count) (λ rest left. (sym moved, left))
    c.in-Moved.ensures.next)
