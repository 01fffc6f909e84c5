use Rattle.std.proofs.Common.{◌≡◌, ◌++◌}
use Rattle.luks_format.specs.Table.{ascending}
use Rattle.luks_open.specs.Opening.{tried_with}
use Rattle.luks_open.proofs.ordering.push_usable.Given as goal

-- the key slots of this priority before this number were appended
abbrev pub invariant-loop-number : goal.invariant-loop-number
invariant-loop-number l = l.entries.items ≡ l.fn.entries.items
    ++ ascending (tried_with l.header l.limits l.priority) l.number
