use Rattle.std.proofs.Common.{◌≡◌}
use Rattle.luks_argon2.specs.Argon2.{with_first_blocks}
use Rattle.luks_argon2.proofs.first_blocks.write_first_blocks.Given as goal

abbrev pub invariant-lanes : goal.invariant-lanes
invariant-lanes l = l.memory ≡ with_first_blocks l.h0 l.lane_len l.fn.memory l.lane
