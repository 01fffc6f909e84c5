use Rattle.std.proofs.Common.{◌≡◌, take}
use Rattle.luks_audit.specs.Marks.{has_lead}
use Rattle.luks_audit.proofs.mark.has_lead.Given as goal

-- whether a mark can begin with one of the bytes so far
abbrev pub invariant-loop-byte : goal.invariant-loop-byte
invariant-loop-byte l = l.found ≡ has_lead (take l.byte-index l.text)
