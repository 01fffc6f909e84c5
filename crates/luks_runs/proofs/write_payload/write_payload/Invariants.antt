use Rattle.std.proofs.Common.{◌≡◌, ◌<◌, ◌^◌, List, ℕ, length, take, true, false}
use Rattle.luks_io.specs.Devices.{ConsumedExactly}
use Rattle.luks_io.specs.Counts.{Reads, Writes}
use Rattle.luks_payload.specs.PumpEffects.{is_running}
use Rattle.luks_runs.specs.Payload.{with_payload_allowed}
use Rattle.luks_runs.proofs.PayloadLemmas.{Forwarding}
use Rattle.luks_runs.proofs.write_payload.write_payload.Given as goal

-- the pump has forwarded `counter` sectors, and no call was needless
abbrev pub invariant-sectors : goal.invariant-sectors
invariant-sectors g l = record {
  segment : l.pump.segment ≡ l.fn.segment;
  cipher : l.pump.cipher ≡ l.fn.cipher;
  count : l.pump.count ≡ l.counter;
  running : is_running l.pump.state ≡ true;
  reads : Reads false false (with_payload_allowed l.fn.segment (g.I.Source.counts l.fn.image))
      (g.I.Source.counts l.image);
  writes : Writes false (g.O.Sink.counts l.initial.out) (g.O.Sink.counts l.out);
  forwarding : (whole : List ℕ) → length whole < 2 ^ 64 → l.fn.loaded ≡ take (length l.fn.loaded) whole
      → ConsumedExactly whole (g.I.Source.to_come l.initial.image) (length l.fn.loaded)
      → Forwarding l.pump whole (length l.fn.loaded) (g.I.Source.to_come l.image) (g.O.Sink.written l.initial.out)
      (g.O.Sink.written l.out);
}
