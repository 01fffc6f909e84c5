use Rattle.std.proofs.Common.{arith}
use Rattle.luks_kdf.specs.LaneWords.{after_digest}
use Rattle.luks_kdf.proofs.sha1_iterations.after_digest.Goals as goal

pub digest_block-requires : goal.digest_block-requires
digest_block-requires g c = (omega arith, (omega arith, omega arith))

pub compress-requires : goal.compress-requires
compress-requires g c = (omega arith, (omega arith, omega arith))

pub returns : goal.returns
unfolding after_digest
returns g c = λ j in_lane. c.compress.ensures j _ in_lane (c.digest_block.ensures j in_lane)
