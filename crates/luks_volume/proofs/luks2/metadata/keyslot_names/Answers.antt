use Rattle.std.proofs.Common.{ap, ◌∙◌, arith}
use Rattle.luks_volume.specs.Layout2.{names_below}
use Rattle.luks_volume.proofs.luks2.metadata.keyslot_names.Goals as goal

pub returns : goal.returns
returns c = c.slots.invariant ∙ ap (names_below c.args.seal.now) (omega arith)
