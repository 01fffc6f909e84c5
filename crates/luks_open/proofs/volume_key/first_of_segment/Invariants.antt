use Rattle.std.proofs.Common.{◌≡◌, drop}
use Rattle.luks_open.specs.VolumeKey.{first_of_segment}
use Rattle.luks_open.proofs.volume_key.first_of_segment.Given as goal

-- none of the earlier digests is one
abbrev pub invariant-digests : goal.invariant-digests
invariant-digests l = first_of_segment (drop l.entry-index l.digests) ≡ first_of_segment l.digests
