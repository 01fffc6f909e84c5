use Rattle.std.proofs.Common.{◌≡◌}
use Rattle.luks_argon2.specs.Addressing.{HasAddresses}
use Rattle.luks_argon2.specs.Fill.{segment_filled}
use Rattle.luks_argon2.proofs.filling.fill_segment.Given as goal

abbrev pub invariant-columns : goal.invariant-columns
invariant-columns l =
    (l.memory ≡ segment_filled l.variant l.layout l.segment l.fn.memory l.i)
    × HasAddresses l.variant l.layout l.segment l.i l.words
