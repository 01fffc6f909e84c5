use Rattle.std.proofs.Common.{length, take, ◌-◌, ◌≤◌, false}
use Rattle.std.specs.Io.KnownBytes.{Appends}
use Rattle.luks_io.specs.Counts.{Writes}
use Rattle.luks_io.proofs.sink.put_all.Given as goal

-- the bytes so far were written, no write has failed, and none was needless
abbrev pub invariant-loop-at : goal.invariant-loop-at
invariant-loop-at g l = record {
  within : l.at ≤ length l.bytes;
  written : Appends (g.S.Sink.written l.initial.sink) (g.S.Sink.written l.sink) (take l.at l.bytes);
  writes : Writes false (g.S.Sink.counts l.initial.sink) (g.S.Sink.counts l.sink);
}

abbrev pub decreases-loop-at : goal.decreases-loop-at
decreases-loop-at g l = length l.bytes - l.at
