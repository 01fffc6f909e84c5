use Rattle.std.proofs.Common.{◌≡◌}
use Rattle.luks_format.specs.Table.{ascending}
use Rattle.luks2_metadata.specs.Digest2.{digest2_numbered}
use Rattle.luks2_metadata.proofs.luks2_digest.digests.Given as goal

abbrev pub invariant-loop-number : goal.invariant-loop-number
invariant-loop-number l = l.digests.items ≡ ascending (digest2_numbered l.metadata) l.number
