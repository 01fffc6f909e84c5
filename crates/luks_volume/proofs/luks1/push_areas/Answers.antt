use Rattle.std.proofs.Common.{◌∙◌, ◌++◌, ap, arith}
use Rattle.luks_kdf.specs.Bytes.{joined}
use Rattle.luks_volume.proofs.SectorLemmas.{pieces_more}
use Rattle.luks_volume.specs.Layout1.{area1_of}
use Rattle.luks_volume.proofs.luks1.push_areas.Goals as goal

pub slots-preserved : goal.slots-preserved
slots-preserved c =
    pieces_more (area1_of c.args.seal.now) c.slots.number c.args.image.now.items _ _ c.slots.invariant
    c.in_ok-push_area.ensures

pub returns : goal.returns
returns c =
    c.slots.invariant ∙ ap (λ n. c.args.image.now.items ++ joined (area1_of c.args.seal.now) n) (omega arith)
