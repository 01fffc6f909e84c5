use Rattle.std.proofs.Common.{◌≡◌, ◌-◌}
use Rattle.luks_audit_run.proofs.SearchLemmas.{Searches}
use Rattle.luks_audit_run.proofs.image.search_image.Given as goal

-- what was written so far, and that no read and no write has failed
abbrev pub invariant-loop-place : goal.invariant-loop-place
invariant-loop-place g l = record {
  so_far : Searches l.policy l.file (g.S.Source.to_come l.initial.source) (g.S.Source.to_come l.source)
      (g.O.Sink.written l.initial.out) (g.O.Sink.written l.out) l.found l.search;
  failures : (g.S.Source.counts l.source).failures ≡ (g.S.Source.counts l.initial.source).failures;
  writes : (g.O.Sink.counts l.out).failures ≡ (g.O.Sink.counts l.initial.out).failures;
}

abbrev pub decreases-loop-place : goal.decreases-loop-place
decreases-loop-place g l = 18014398509481985 - l.search.sector
