use Rattle.std.proofs.Common.{◌≡◌, ◌*◌, false, length}
use Rattle.luks_io.specs.Devices.{ConsumedExactly, IfKnown}
use Rattle.luks_io.specs.Counts.{Reads}
use Rattle.luks_kdf.specs.Stripes.{splitter_after}
use Rattle.luks_runs.proofs.stripes.merge.Given as goal

-- the stripes so far were consumed and absorbed, and no read was needless
abbrev pub invariant-stripes : goal.invariant-stripes
invariant-stripes g l = record {
  reads : Reads false false (g.S.Source.counts l.initial.stripes) (g.S.Source.counts l.stripes);
  stripe : length l.stripe ≡ l.merge_args.key_bytes.bytes;
  len : length l.splitter.block ≡ l.merge_args.key_bytes.bytes;
  consumed : IfKnown (g.S.Source.to_come l.initial.stripes)
      (λ known. (l.splitter ≡ splitter_after l.merge_args.hash l.merge_args.key_bytes.bytes known l.counter)
      × ConsumedExactly known (g.S.Source.to_come l.stripes) (l.counter * l.merge_args.key_bytes.bytes));
}
