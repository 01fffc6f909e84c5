use Rattle.std.proofs.Common.{◌≡◌, ◌-◌}
use Rattle.luks_argon2.specs.Argon2.{last_column_xor}
use Rattle.luks_argon2.proofs.tag.last_column_xor.Given as goal

abbrev pub invariant-lanes : goal.invariant-lanes
invariant-lanes l = l.last ≡ last_column_xor l.lane_len l.memory (l.lane - 1)
