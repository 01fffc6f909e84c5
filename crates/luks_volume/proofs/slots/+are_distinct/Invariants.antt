use Rattle.std.proofs.Common.{length}
use Rattle.luks_volume.proofs.slots.+are_distinct.Given as goal

-- the number of remaining slots
abbrev pub decreases-are_distinct : goal.decreases-are_distinct
decreases-are_distinct g l = length l.slots.now
