use Rattle.luks_access.specs.Sectors.{fails_at_start}
use Rattle.luks_access.proofs.volume.Volume.open.Given as goal

-- whether a read of one of the image's first bytes may fail
abbrev pub ghosts-open_start : goal.ghosts-open_start
ghosts-open_start g a =
    record { may_fail = fails_at_start (g.I.ReadAt.image a.image.now) (g.I.ReadAt.fails a.image.now) }
