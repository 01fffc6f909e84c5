use Rattle.luks_payload.proofs.StepLemmas.{skips}
use Rattle.luks_payload.proofs.pump.Pump.skip.Goals as goal
use Rattle.luks_payload.proofs.pump.Pump.skip.Goals.{in-Ok, in-Err}

pub returns-after-answer-clause-run : goal.returns-after-answer-clause-run
returns-after-answer-clause-run g c = rw (← c.self.view_is) (λ image before positioned.
    let done = skips _ image _ _ c.self.invariant.0 before (c.self.invariant.2 before).1 positioned
    c.discard-answer.result c.discard-answer.ensures.ok c.discard-answer.ensures.err in
    elim c.match-answer.branch [ in-Ok w ↦ rw w.answer-is done | in-Err w ↦ rw w.answer-is (rw w.in-Err.is at done) ])
