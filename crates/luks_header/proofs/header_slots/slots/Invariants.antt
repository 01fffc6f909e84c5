use Rattle.std.proofs.Common.{◌≡◌}
use Rattle.luks_format.specs.Table.{ascending}
use Rattle.luks_header.specs.SlotVerdicts.{numbered_verdict}
use Rattle.luks_header.proofs.header_slots.slots.Given as goal

-- the verdicts on the key slots before this number
abbrev pub invariant-loop-number : goal.invariant-loop-number
invariant-loop-number l = l.verdicts.items ≡ ascending (numbered_verdict l.header l.limit) l.number
