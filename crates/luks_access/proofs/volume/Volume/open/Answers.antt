use Rattle.luks_access.proofs.FailingLemmas.{at_start_if, at_start_only}
use Rattle.luks_access.proofs.volume.Volume.open.Goals as goal

pub open_start-requires : goal.open_start-requires
open_start-requires g c = at_start_if (g.I.ReadAt.image c.args.image.now) (g.I.ReadAt.fails c.args.image.now)

pub returns-clause-failed : goal.returns-clause-failed
returns-clause-failed g c failed =
    at_start_only (g.I.ReadAt.image c.args.image.now) (g.I.ReadAt.fails c.args.image.now)
    (c.open_start.ensures.failed failed)
