use Rattle.std.proofs.Common.{ℕ, List, Option, Result}
use Rattle.std.specs.Io.KnownBytes.{Keeps}
use Rattle.luks_io.specs.CallOutcomes.{ReportsFirst, write_result}
use Rattle.luks_io.specs.declared.DeviceFault.{DeviceFault}
use Rattle.luks_io.specs.declared.adapters.CallOutcome.{CallOutcome}
use Rattle.luks_io.proofs.adapters.writing.write_patiently.Given as goal

-- the calls so far were interrupted: they wrote nothing, and the result reported from here on is that of all calls
abbrev pub invariant-tries : goal.invariant-tries
invariant-tries g l = record {
  reported : (reported : Result ℕ DeviceFault) (after : Option (List CallOutcome)) →
      ReportsFirst write_result (g.D.RawWriter.answers l.device) l.tries reported after
      → ReportsFirst write_result (g.D.RawWriter.answers l.initial.device) l.initial.tries reported after;
  kept : Keeps (g.D.RawWriter.bytes l.initial.device) (g.D.RawWriter.bytes l.device);
}

-- the number of remaining tries
abbrev pub decreases-tries : goal.decreases-tries
decreases-tries g l = l.tries
