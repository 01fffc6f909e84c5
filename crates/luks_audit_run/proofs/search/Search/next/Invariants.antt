use Rattle.std.proofs.Common.{◌≡◌, ◌-◌, ◌≤◌, ℕ, List}
use Rattle.luks_audit_run.specs.Search.{FindsNone, IsIn}
use Rattle.luks_audit_run.proofs.search.Search.next.Given as goal

-- so far there is no place, and no read has failed
abbrev pub invariant-loop-self : goal.invariant-loop-self
invariant-loop-self g l = record {
  held : (image : List ℕ) → IsIn image l.initial.self (g.S.Source.to_come l.initial.source)
      → IsIn image l.self (g.S.Source.to_come l.source) × FindsNone image l.initial.self.sector l.self.sector;
  onwards : l.initial.self.sector ≤ l.self.sector;
  range : l.self.sector ≤ 18014398509481984;
  failures : (g.S.Source.counts l.source).failures ≡ (g.S.Source.counts l.initial.source).failures;
}

abbrev pub decreases-loop-self : goal.decreases-loop-self
decreases-loop-self g l = 18014398509481984 - l.self.sector
