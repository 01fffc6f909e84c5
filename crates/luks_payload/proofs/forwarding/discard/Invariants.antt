use Rattle.std.proofs.Common.{◌≤◌, ◌-◌, false}
use Rattle.luks_io.specs.Devices.{ConsumedExactly, IfKnown}
use Rattle.luks_io.specs.Counts.{Reads}
use Rattle.luks_payload.proofs.forwarding.discard.Given as goal

-- the bytes so far were discarded, no read has failed or hit EOF, and none was needless
abbrev pub invariant-pieces : goal.invariant-pieces
invariant-pieces g l = record {
  reads : Reads false false (g.S.Source.counts l.initial.source) (g.S.Source.counts l.source);
  few : l.remaining ≤ l.count;
  consumed : IfKnown (g.S.Source.to_come l.initial.source)
      (λ known. ConsumedExactly known (g.S.Source.to_come l.source) (l.count - l.remaining));
}

-- the number of bytes still to be discarded
abbrev pub decreases-pieces : goal.decreases-pieces
decreases-pieces g l = l.remaining
