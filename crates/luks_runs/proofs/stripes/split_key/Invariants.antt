use Rattle.std.proofs.Common.{◌≡◌, ◌*◌, false, length}
use Rattle.luks_io.specs.Devices.{IfKnown}
use Rattle.luks_io.specs.Counts.{Reads, Writes}
use Rattle.luks_kdf.specs.Stripes.{splitter_after}
use Rattle.luks_runs.proofs.StripeLemmas.{ForwardedBytes}
use Rattle.luks_runs.proofs.stripes.split_key.Given as goal

-- the stripes so far were consumed, written and absorbed, and no call was needless
abbrev pub invariant-stripes : goal.invariant-stripes
invariant-stripes g l = record {
  reads : Reads false false (g.R.Source.counts l.initial.random) (g.R.Source.counts l.random);
  writes : Writes false (g.O.Sink.counts l.initial.out) (g.O.Sink.counts l.out);
  block : length l.block ≡ length l.key;
  len : length l.splitter.block ≡ length l.key;
  forwarded : IfKnown (g.R.Source.to_come l.initial.random)
      (λ known. (l.splitter ≡ splitter_after l.split_args.hash (length l.key) known l.counter)
      × ForwardedBytes known (g.R.Source.to_come l.random) (g.O.Sink.written l.initial.out) (g.O.Sink.written l.out)
      (l.counter * length l.key));
}
