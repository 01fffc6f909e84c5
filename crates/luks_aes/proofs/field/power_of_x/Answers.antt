use Rattle.std.proofs.Common.{add-one, ap, ◌∙◌}
use Rattle.luks_aes.specs.Field.{times_x, power_of_x}
use Rattle.luks_aes.proofs.field.power_of_x.Goals as goal

pub loop-preserved : goal.loop-preserved
unfolding power_of_x
loop-preserved c = rw add-one (c.times_x-power.ensures ∙ ap times_x c.loop.invariant)
