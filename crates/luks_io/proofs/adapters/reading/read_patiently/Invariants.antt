use Rattle.std.proofs.Common.{ℕ, List, Option, Result}
use Rattle.std.specs.Io.KnownBytes.{Keeps}
use Rattle.luks_io.specs.CallOutcomes.{ReportsFirst, read_result}
use Rattle.luks_io.specs.declared.DeviceFault.{DeviceFault}
use Rattle.luks_io.specs.declared.adapters.CallOutcome.{CallOutcome}
use Rattle.luks_io.proofs.adapters.reading.read_patiently.Given as goal

-- the calls so far were interrupted: they consumed nothing, and the result reported from here on is that of all calls
abbrev pub invariant-tries : goal.invariant-tries
invariant-tries g l = record {
  reported : (reported : Result ℕ DeviceFault) (after : Option (List CallOutcome)) →
      ReportsFirst read_result (g.D.RawReader.answers l.device) l.tries reported after
      → ReportsFirst read_result (g.D.RawReader.answers l.initial.device) l.initial.tries reported after;
  kept : Keeps (g.D.RawReader.bytes l.initial.device) (g.D.RawReader.bytes l.device);
}

-- the number of remaining tries
abbrev pub decreases-tries : goal.decreases-tries
decreases-tries g l = l.tries
