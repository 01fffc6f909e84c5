use Rattle.std.proofs.Common.{◌≡◌, ◌+◌, ◌≤◌, ◌∙◌, ap, sym, subst, length, inl, inr, refl}
use Rattle.luks_io.proofs.ErrorLemmas.{given_error}
use Rattle.luks_payload.specs.Plain.{sector_start}
use Rattle.luks_payload.specs.PumpEffects.{PositionedAt, PumpModel, StepEffect, max_sectors}
use Rattle.luks_payload.specs.declared.state.State.TheVariants.{Ended}
use Rattle.luks_payload.proofs.StepLemmas.{resumed, steps_skipped, steps_unskipped}
use Rattle.luks_payload.proofs.StepLemmas.{unskipped_reads, unskipped_writes, was_before}
use Rattle.luks_payload.proofs.pump.Pump.step.Goals as goal

pub returns-in_err-skip-clause-run : goal.returns-in_err-skip-clause-run
returns-in_err-skip-clause-run g c =
    let was = c.args.self.now in
    rw (given_error _ _ c.from_residual.ensures.1) (λ image few positioned.
    let first = was_before was.state _ _ c.in_err-skip.ensures.again positioned.running in
    steps_unskipped was image _ _ _ _ first (c.in_err-skip.ensures.fresh first) positioned _
    (c.in_err-skip.ensures.run image first positioned))

pub returns-in_err-skip-clause-reads : goal.returns-in_err-skip-clause-reads
returns-in_err-skip-clause-reads g c =
    let was = c.args.self.now in
    let aborted = c.in_err-skip.ensures in
    rw (given_error _ _ c.from_residual.ensures.1) (λ running.
    unskipped_reads was.segment was.count _ (aborted.only (was_before was.state _ _ aborted.again running)) _ _
    (aborted.reads running))

pub returns-in_err-skip-clause-writes : goal.returns-in_err-skip-clause-writes
returns-in_err-skip-clause-writes g c =
    let was = c.args.self.now in
    let aborted = c.in_err-skip.ensures in
    rw (given_error _ _ c.from_residual.ensures.1) (λ running.
    unskipped_writes was.segment was.count _ (aborted.only (was_before was.state _ _ aborted.again running)) _)

pub returns-clause-run : goal.returns-clause-run
returns-clause-run g c image few positioned =
    let was = c.args.self.now in
    let skip = c.in_ok-skip.ensures in
    let now = c.self.view_is ∙ skip.pump in
    steps_skipped was image _ _ _ _ _ _ positioned
    (subst (λ (p : PumpModel). p.consumed_before ≤ p.segment.offset) now c.self.invariant.0) was.state _ refl
    skip.again (λ same. ap g.S.Source.to_come same) skip.fresh (λ first. skip.run image first positioned)
    (subst (λ (p : PumpModel).
    PositionedAt image p.prefix (sector_start p.segment p.count) (g.S.Source.to_come c.skip.new.source)
    → StepEffect p.segment p.cipher p.count (sector_start p.segment p.count + length p.prefix) image
    c.next_sector-answer.result (g.S.Source.to_come c.next_sector-answer.new.source) (g.O.Sink.written c.args.sink.now)
    (g.O.Sink.written c.next_sector-answer.new.sink)) now (c.next_sector-answer.ensures.run image few))

pub remember-requires-clause-running : goal.remember-requires-clause-running
remember-requires-clause-running g c =
    let going : c.self.inside.state ≡ Ended → ⊥ = λ ended. (let f = rw ended at c.if-eq.ensures in absurd cc) in
    (resumed c.args.self.now.state c.self.inside.state _ c.in_ok-skip.ensures.again
    (ap (λ (p : PumpModel). p.state) (c.self.view_is ∙ c.in_ok-skip.ensures.pump)) going).0

pub remember-requires-clause-below : goal.remember-requires-clause-below
remember-requires-clause-below g c is = rw is at c.next_sector-answer.ensures.only

pub returns-clause-idle : goal.returns-clause-idle
returns-clause-idle g c =
    let going : c.self.inside.state ≡ Ended → ⊥ = λ ended. (let f = rw ended at c.if-eq.ensures in absurd cc) in
    let now = c.self.view_is ∙ c.in_ok-skip.ensures.pump in
    elim (resumed c.args.self.now.state c.self.inside.state _ c.in_ok-skip.ensures.again
    (ap (λ (p : PumpModel). p.state) now) going).1 [
      | inl is ↦ rw is tt
      | inr (is, same) ↦ rw is (λ full.
          let end = c.next_sector-answer.ensures.limit
          (ap (λ (p : PumpModel). p.count) now ∙ full ∙ ap (λ (p : PumpModel). max_sectors p.segment) (sym now)) in
          (end.0, (end.1 ∙ same, end.2)))
    ]
