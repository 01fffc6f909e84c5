use Rattle.std.proofs.Common.{◌∙◌, ◌++◌, ap, arith}
use Rattle.luks_kdf.specs.Bytes.{joined}
use Rattle.luks_volume.proofs.SectorLemmas.{pieces_more}
use Rattle.luks_volume.specs.Layout1.{key_slot1_of}
use Rattle.luks_volume.proofs.luks1.headers.push_key_slots.Goals as goal

pub slots-preserved : goal.slots-preserved
slots-preserved c =
    pieces_more (key_slot1_of c.args.seal.now) c.slots.number c.args.header.now.items _ _ c.slots.invariant
    c.in_ok-push_key_slot.ensures

pub returns : goal.returns
returns c =
    c.slots.invariant ∙ ap (λ n. c.args.header.now.items ++ joined (key_slot1_of c.args.seal.now) n) (omega arith)
