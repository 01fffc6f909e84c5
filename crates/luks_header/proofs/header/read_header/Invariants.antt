use Rattle.std.proofs.Common.{◌≡◌, ◌+◌, ◌-◌, ◌<◌, ◌≤◌, [], Some, length, false, true}
use Rattle.std.specs.Prelude.{if◌then◌else◌}
use Rattle.luks_io.specs.Counts.{Reads}
use Rattle.luks_io.specs.Devices.{IfKnown}
use Rattle.luks_format.specs.Area.{IsStart}
use Rattle.luks_format.specs.Search2.{IsSearchOf}
use Rattle.luks_header.specs.Header.{probe_len}
use Rattle.luks_header.proofs.header.read_header.Given as goal

-- no more bytes are loaded than are read for the header, and fewer only if EOF was not hit
abbrev pub invariant-loop-end : goal.invariant-loop-end
invariant-loop-end g l = record {
  within : length l.area.bytes ≤ probe_len l.area.bytes;
  short : l.area.ended ≡ true → length l.area.bytes < probe_len l.area.bytes;
  start : IfKnown (g.S.Source.to_come l.fn.source) (λ image. IsStart image l.area.bytes (g.S.Source.to_come l.source));
  emptied : l.area.ended ≡ true
      → IfKnown (g.S.Source.to_come l.fn.source) (λ _. g.S.Source.to_come l.source ≡ Some []);
  reads : Reads false l.area.ended (g.S.Source.counts l.fn.source) (g.S.Source.counts l.source);
  searched : IsSearchOf l.area.bytes l.search;
  first : l.area.ended ≡ false → length l.area.bytes < 592 → (l.area.bytes ≡ []) × (l.source ≡ l.fn.source);
}

abbrev pub decreases-loop-end : goal.decreases-loop-end
decreases-loop-end g l = 33554432 - length l.area.bytes + (if l.area.ended then 0 else 1)
