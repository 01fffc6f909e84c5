use Rattle.std.proofs.Common.{arith}
use Rattle.luks_kdf.proofs.sha1_chains.after_block.Goals as goal

pub load_block-requires : goal.load_block-requires
load_block-requires g c = (omega arith, (omega arith, c.requires.block))

pub compress-requires : goal.compress-requires
compress-requires g c = (omega arith, (omega arith, omega arith))

pub returns : goal.returns
returns g c = λ j in_lane.
    rw (← c.first_state.ensures j in_lane) (c.compress.ensures j _ in_lane (c.load_block.ensures j in_lane))
