use Rattle.std.proofs.Common.{◌≡◌}
use Rattle.luks_argon2.specs.Fill.{passes_filled}
use Rattle.luks_argon2.proofs.filling.fill.Given as goal

abbrev pub invariant-passes : goal.invariant-passes
invariant-passes l = l.memory ≡ passes_filled l.variant l.layout l.fn.memory l.pass
