use Rattle.std.proofs.Common.{◌≡◌}
use Rattle.luks_argon2.specs.Fill.{slices_filled}
use Rattle.luks_argon2.proofs.filling.fill_pass.Given as goal

abbrev pub invariant-slices : goal.invariant-slices
invariant-slices l = l.memory ≡ slices_filled l.variant l.layout l.pass l.fn.memory l.slice
