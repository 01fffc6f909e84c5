use Rattle.std.proofs.Common.{rules}
use Rattle.luks_volume.specs.Ranges1.{AreParameters1}
use Rattle.luks_volume.proofs.Sealed1.{sealed1}
use Rattle.luks_volume.proofs.luks1.seal1.Goals as goal

pub returns-clause-sealed : goal.returns-clause-sealed
returns-clause-sealed c =
    let fits : AreParameters1 c.args.seal.now = search (rules, c.are_parameters.ensures) in
    rw c.in_ok-image_of.ensures (sealed1 c.args.seal.now fits c.typed1.ensures)

pub returns-then-not-are_parameters-clause-answer : goal.returns-then-not-are_parameters-clause-answer
returns-then-not-are_parameters-clause-answer c = search rules
