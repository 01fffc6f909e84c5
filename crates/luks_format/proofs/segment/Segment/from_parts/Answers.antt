use Rattle.std.proofs.Common.{sym}
use Rattle.luks_format.proofs.MadeLemmas.{segment_by, segment_from-yes}
use Rattle.luks_format.proofs.segment.Segment.from_parts.Goals as goal

pub returns : goal.returns
unfolding segment_by
returns c =
    rw (c.in_ok-offset.was, c.in_ok-size.was, c.in_ok-iv_tweak.was, c.in_ok-sector_size.was, c.in_ok-mode.was)
    (sym (segment_from-yes _ _ _ _ _ _))
