use Rattle.std.proofs.Common.{◌≡◌}
use Rattle.luks_format.specs.Table.{ascending}
use Rattle.luks_open.specs.Opening.{skipped_at}
use Rattle.luks_open.proofs.ordering.skipped.Given as goal

-- the skipped ones among the key slots before this number
abbrev pub invariant-loop-number : goal.invariant-loop-number
invariant-loop-number l = l.skipped ≡ ascending (skipped_at l.header l.limits) l.number
