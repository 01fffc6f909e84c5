use Rattle.std.proofs.Common.{rules, sym, subst}
use Rattle.luks_volume.specs.Sealed.{Sealed}
use Rattle.luks_volume.specs.Layout2.{FitsJson}
use Rattle.luks_volume.specs.Ranges2.{passphrases2_of, AreParameters2}
use Rattle.luks_volume.proofs.Sealed2.{sealed2}
use Rattle.luks_volume.proofs.luks2.seal2.Goals as goal

pub returns-clause-sealed : goal.returns-clause-sealed
returns-clause-sealed c =
    let p = c.args.seal.now in
    let fits : AreParameters2 p = search rules in
    let json : FitsJson p = search rules in
    subst (λ image. Sealed image (passphrases2_of p) p.key.now p.plain.now) (sym c.in_ok-image_of.ensures)
    (sealed2 p fits json c.in_ok-json.ensures.reads_back c.typed2.ensures)
