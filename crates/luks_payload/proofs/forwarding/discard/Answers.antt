use Rattle.std.proofs.Common.{◌≡◌, ◌+◌, ◌-◌, ◌<◌, ◌∙◌, length, length-take-le, arith}
use Rattle.luks_io.proofs.ErrorLemmas.{given_error}
use Rattle.luks_io.proofs.EffectLemmas.{consumed_all, consumed_more, consumed_sum, reads_more}
use Rattle.luks_payload.proofs.ForwardingLemmas.{whole_reads}
use Rattle.luks_payload.proofs.forwarding.discard.Goals as goal

pub returns-in_err-fill-clause-err : goal.returns-in_err-fill-clause-err
returns-in_err-fill-clause-err g c =
    let few = c.pieces.invariant.few in
    let sized : length c.fill.new.buf ≡ c.min-size.result = c.fill.auto.buf
    ∙ length-take-le c.min-size.result c.pieces.piece (omega arith) in
    let below : c.args.count - c.pieces.remaining + c.in_err-fill.field-0.0.got
    < c.args.count = omega (arith, c.in_err-fill.ensures.bound) in
    rw (given_error _ _ c.from_residual.ensures.1) (λ known is. (
      c.args.count - c.pieces.remaining + c.in_err-fill.field-0.0.got,
      below,
      consumed_more known _ _ _ _ (c.pieces.invariant.consumed known is)
          (λ rest left. (c.in_err-fill.ensures.bytes rest left).0),
    ))

pub returns-then-branch-size-clause-err : goal.returns-then-branch-size-clause-err
returns-then-branch-size-clause-err g c known is =
    let few = c.pieces.invariant.few in
    let sized : length c.fill.new.buf ≡ c.min-size.result = c.fill.auto.buf
    ∙ length-take-le c.min-size.result c.pieces.piece (omega arith) in
    let short : c.in_ok-fill.field-0 < length c.fill.new.buf = omega arith in
    let next = consumed_all known _ _ _ _ _ (c.pieces.invariant.consumed known is)
    (λ rest left. (c.in_ok-fill.ensures.bytes rest left).0) c.in_ok-fill.ensures.end short in
    (omega (arith, next.0), next.1)

pub pieces-preserved : goal.pieces-preserved
pieces-preserved g c =
    let few = c.pieces.invariant.few in
    let sized : length c.fill.new.buf ≡ c.min-size.result = c.fill.auto.buf
    ∙ length-take-le c.min-size.result c.pieces.piece (omega arith) in
    let full : c.in_ok-fill.field-0 ≡ c.min-size.result = omega (arith, c.in_ok-fill.ensures.bound) in
    let more : c.args.count - c.pieces.remaining + c.in_ok-fill.field-0
    ≡ c.args.count - (c.pieces.remaining - c.min-size.result) = omega arith in
    record {
      reads = reads_more _ _ _ _ (g.S.Source.counts c.fill.new.source) c.pieces.invariant.reads
          (whole_reads _ _ _ _ (omega arith) c.in_ok-fill.ensures.reads);
      few = omega arith;
      consumed = λ known is.
          consumed_sum known _ _ _ _ _ more (c.pieces.invariant.consumed known is)
          (λ rest left. (c.in_ok-fill.ensures.bytes rest left).0);
    }
