use Rattle.std.proofs.Common.{rules, arith, refl}
use Rattle.luks_io.specs.CallOutcomes.{read_result}
use Rattle.luks_io.specs.declared.adapters.CallOutcome.TheVariants.{Failed, Moved}
use Rattle.luks_io.proofs.Reporting.{reports_again, reports_from, reports_last}
use Rattle.luks_io.proofs.adapters.reading.read_patiently.Goals as goal

pub returns-in-Moved-clause-reported : goal.returns-in-Moved-clause-reported
returns-in-Moved-clause-reported g c = c.tries.invariant.reported _ _
    (reports_from read_result _ _ _ _ c.tries.tries (Moved c.in-Moved.count) (λ rest left. (refl, left))
    c.in-Moved.ensures.next)

pub tries-preserved : goal.tries-preserved
tries-preserved g c = record {
  reported = λ reported after rest. c.tries.invariant.reported reported after
      (reports_again read_result _ _ reported after c.tries.tries (omega arith) c.in-Interrupted.ensures.next rest);
  kept = search rules;
}

pub returns-in-Interrupted-2-clause-reported : goal.returns-in-Interrupted-2-clause-reported
returns-in-Interrupted-2-clause-reported g c =
    c.tries.invariant.reported _ _ (reports_last read_result _ _ c.tries.tries (omega arith)
    c.in-Interrupted.ensures.next)

pub returns-in-Failed-clause-reported : goal.returns-in-Failed-clause-reported
returns-in-Failed-clause-reported g c = c.tries.invariant.reported _ _
    (reports_from read_result _ _ _ _ c.tries.tries Failed (λ rest left. (refl, left)) c.in-Failed.ensures.next)
