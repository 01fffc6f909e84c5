use Rattle.std.proofs.Common.{◌∙◌, ◌++◌, ap, arith}
use Rattle.luks_kdf.specs.Bytes.{joined}
use Rattle.luks_volume.proofs.SectorLemmas.{pieces_more}
use Rattle.luks_volume.specs.Layout2.{area_at}
use Rattle.luks_volume.proofs.luks2.areas.push_areas.Goals as goal

pub slots-preserved : goal.slots-preserved
slots-preserved c =
    pieces_more (area_at c.args.seal.now) c.slots.number c.args.image.now.items _ _ c.slots.invariant
    c.in_ok-push_area_at.ensures

pub returns : goal.returns
returns c =
    c.slots.invariant ∙ ap (λ n. c.args.image.now.items ++ joined (area_at c.args.seal.now) n) (omega arith)
