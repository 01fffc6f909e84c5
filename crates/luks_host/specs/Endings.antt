-- How a run ends: which line is printed, and which status is returned.
use Rattle.std.specs.Prelude.{◌≡◌, ℕ, ◌≤◌, Bool, true, false, List, [], length, take, Option}
use Rattle.luks_io.specs.Counts.{Writes}
use Rattle.luks_io.specs.Devices.{Appended}
use Rattle.luks_io.specs.declared.counts.WriteCounts.{WriteCounts}
use Rattle.luks_host.specs.declared.ending.Ending.{Ending}
use Rattle.luks_host.specs.Outputs.{GivesFlush}

-- an ending's line and status
abbrev pub shown : Ending → List ℕ × ℕ
shown ending = (ending.line.now, ending.status)

-- a line and a status, by whether the output was flushed: those of the run's report, or those of lost output
abbrev pub ending_after : Bool → List ℕ × ℕ → List ℕ × ℕ → List ℕ × ℕ
ending_after true report lost = report
ending_after false report lost = lost

-- a prefix of the line was written, and all of it if no write failed; no write was needless
pub record Printed (line : List ℕ) (before after : Option (List ℕ)) (counts counts' : WriteCounts) : Type 0 where
  pub failed : Bool
  pub writes : Writes failed counts counts'
  pub count : ℕ
  pub within : count ≤ length line
  pub whole : failed ≡ false → count ≡ length line
  pub written : Appended before after (take count line)

-- the end of a run: the output was flushed once, none of it is left if that succeeded, and the report's line and
-- status, or those of lost output, were printed and returned
pub record EndsRun (flushes flushes' : Option (List Bool)) (unflushed : List ℕ) (report lost : List ℕ × ℕ)
    (before after : Option (List ℕ)) (counts counts' : WriteCounts) (status : ℕ) : Type 0 where
  pub flushed : Bool
  pub flush : GivesFlush flushes flushed flushes'
  pub emptied : flushed ≡ true → unflushed ≡ []
  pub printed : Printed (ending_after flushed report lost).0 before after counts counts'
  pub result : status ≡ (ending_after flushed report lost).1
