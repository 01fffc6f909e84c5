use Rattle.luks_kdf.specs.LaneWords.{after_digest}
use Rattle.luks_kdf.proofs.sha256_iterations.after_digest.Goals as goal

pub returns : goal.returns
unfolding after_digest
returns c = λ j in_lane state d.
    let block = c.digest_block.ensures in
    c.compress.ensures j _ in_lane state (block.twice j in_lane d) (block.block j in_lane)
