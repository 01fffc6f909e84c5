use Rattle.std.proofs.Common.{◌∙◌, ap, arith}
use Rattle.luks_volume.specs.Layout2.{keyslots_below}
use Rattle.luks_volume.proofs.luks2.metadata.keyslots.Goals as goal

pub returns : goal.returns
returns c = c.slots.invariant ∙ ap (keyslots_below c.args.seal.now) (omega arith)
