-- What is printed, from the result of the writes.
use Rattle.std.proofs.Common.{◌≡◌, ◌<◌, ℕ, List, Option, Result, Ok, Err, OnOk, IfErr, is_err, true, false, length}
use Rattle.std.proofs.Common.{refl, sym, subst, take, arith}
use Rattle.std.proofs.lemmas.List.{take_all}
use Rattle.luks_io.specs.Counts.{Writes}
use Rattle.luks_io.specs.Devices.{Appended}
use Rattle.luks_io.specs.declared.counts.WriteCounts.{WriteCounts}
use Rattle.luks_io.specs.declared.sink.WriteFault.{WriteFault}
use Rattle.luks_host.specs.Endings.{Printed}

pub printed_by : (line : List ℕ) (before after : Option (List ℕ)) (counts counts' : WriteCounts)
    (r : Result (Unit {0}) WriteFault) → OnOk r (Appended before after line)
    → IfErr r (λ fault. (fault.written < length line) × Appended before after (take fault.written line))
    → Writes (is_err r) counts counts' → Printed line before after counts counts'
printed_by line before after counts counts' (Ok _) all some writes =
    let whole : take (length line) line ≡ line = take_all (length line) line (omega arith) in
    record {
      failed = false;
      writes = writes;
      count = length line;
      within = omega arith;
      whole = λ _. refl;
      written = subst (λ bytes. Appended before after bytes) (sym whole) all;
    }
printed_by line before after counts counts' (Err fault) all some writes =
    record {
      failed = true;
      writes = writes;
      count = fault.written;
      within = omega (arith, some.0);
      whole = λ not. absurd (grind arith);
      written = some.1;
    }
