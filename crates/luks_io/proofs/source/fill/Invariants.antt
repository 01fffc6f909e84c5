use Rattle.std.proofs.Common.{length, take, ◌-◌, ◌≤◌, false}
use Rattle.std.specs.Io.KnownBytes.{Consumes}
use Rattle.luks_io.specs.Counts.{Reads}
use Rattle.luks_io.proofs.source.fill.Given as goal

-- the bytes so far are at the start, no read has failed or hit EOF, and none was needless
abbrev pub invariant-loop-at : goal.invariant-loop-at
invariant-loop-at g l = record {
  within : l.at ≤ length l.buf;
  consumed : Consumes (g.S.Source.to_come l.initial.source) (g.S.Source.to_come l.source) (take l.at l.buf);
  reads : Reads false false (g.S.Source.counts l.initial.source) (g.S.Source.counts l.source);
}

abbrev pub decreases-loop-at : goal.decreases-loop-at
decreases-loop-at g l = length l.initial.buf - l.at
