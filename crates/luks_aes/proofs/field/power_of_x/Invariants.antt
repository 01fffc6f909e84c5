use Rattle.std.proofs.Common.{◌≡◌}
use Rattle.luks_aes.specs.Field.{power_of_x}
use Rattle.luks_aes.proofs.field.power_of_x.Given as goal

abbrev pub invariant-loop : goal.invariant-loop
invariant-loop l = l.power ≡ power_of_x l.counter
