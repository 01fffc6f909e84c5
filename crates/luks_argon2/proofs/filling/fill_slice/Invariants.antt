use Rattle.std.proofs.Common.{◌≡◌}
use Rattle.luks_argon2.specs.Fill.{lanes_filled}
use Rattle.luks_argon2.proofs.filling.fill_slice.Given as goal

abbrev pub invariant-lanes : goal.invariant-lanes
invariant-lanes l = l.memory ≡ lanes_filled l.variant l.layout l.pass l.slice l.fn.memory l.lane
