use Rattle.std.proofs.Common.{◌+◌, ap, arith, inl, inr, refl}
use Rattle.luks_io.proofs.ErrorLemmas.{given_error}
use Rattle.luks_io.proofs.EffectLemmas.{no_writes, reads_more, writes_more}
use Rattle.luks_runs.proofs.PayloadLemmas.{few_sectors, forwarding_aborts, forwarding_ends, forwarding_more}
use Rattle.luks_runs.proofs.PayloadLemmas.{forwarding_start, reads_with_payload_allowed}
use Rattle.luks_runs.proofs.write_payload.write_payload.Goals as goal

pub sectors-init : goal.sectors-init
sectors-init g c =
    let made = c.pump_after-pump.ensures in
    record {
      segment = made.segment;
      cipher = made.cipher;
      count = made.count;
      running = elim made.state [ inl before ↦ rw before.0 refl | inr within ↦ rw within refl ];
      reads = reads_with_payload_allowed c.args.segment _ _
          (rw c.payload_end.ensures at c.allow_read_ahead.ensures.counts);
      writes = no_writes _;
      forwarding = λ whole few prefix consumption.
          forwarding_start _ whole _ _ _ made.count (rw (← made.segment) at made.early) made.state made.consumed_to
          (made.positioned whole _ prefix consumption);
    }

pub sectors-preserved : goal.sectors-preserved
sectors-preserved g c =
    let so_far = c.sectors.invariant in
    let step = rw c.in-Sector.is at c.in_ok-step.ensures in
    rw step.pump (record {
      segment = so_far.segment;
      cipher = so_far.cipher;
      count = ap (λ n. n + 1) so_far.count;
      running = refl;
      reads = reads_more _ _ _ _ _ so_far.reads (step.reads so_far.running);
      writes = writes_more _ _ _ _ so_far.writes (step.writes so_far.running);
      forwarding = λ whole few prefix consumption.
          let forwarding = so_far.forwarding whole few prefix consumption in
          forwarding_more _ whole _ _ _ _ _ _ forwarding (step.run whole few forwarding.positioned);
    })

pub returns-in_err-step-clause-run : goal.returns-in_err-step-clause-run
returns-in_err-step-clause-run g c =
    let so_far = c.sectors.invariant in
    let step = c.in_err-step.ensures in
    rw (
      given_error _ _ c.from_residual.ensures.1,
      ← so_far.segment,
      ← so_far.cipher,
      ← c.allow_read_ahead.ensures.bytes,
    )
    (λ whole few prefix consumption.
    let forwarding = so_far.forwarding whole few prefix consumption in
    forwarding_aborts _ whole _ _ _ _ _ _ forwarding _ _ _ (λ same. ap g.O.Sink.written same) step.writes_sectors
    (step.run whole few forwarding.positioned))

pub returns-in-End-clause-run : goal.returns-in-End-clause-run
returns-in-End-clause-run g c =
    let so_far = c.sectors.invariant in
    let step = rw c.in-End.is at c.in_ok-step.ensures in
    rw (← so_far.segment, ← so_far.cipher, ← c.allow_read_ahead.ensures.bytes) (λ whole few prefix consumption.
    let forwarding = so_far.forwarding whole few prefix consumption in
    forwarding_ends _ whole _ _ _ _ _ _ forwarding (step.run whole few forwarding.positioned)
    (ap g.O.Sink.written step.writes_sectors))

pub returns-clause-run : goal.returns-clause-run
returns-clause-run g c whole few prefix consumption =
    let so_far = c.sectors.invariant in
    let forwarding = so_far.forwarding whole few prefix (rw (← c.allow_read_ahead.ensures.bytes) at consumption) in
    let all = few_sectors c.sectors.pump.segment whole few in
    absurd (omega (arith, forwarding.few, so_far.count))
