use Rattle.std.proofs.Common.{sym}
use Rattle.sha1.proofs.Schedule.{rounds_first}
use Rattle.sha1.specs.Sha1.{ch}
use Rattle.luks_kdf.specs.LaneWords.{lane}
use Rattle.luks_kdf.proofs.LaneLemmas.{of_three, window1_of_block, word_of_lane}
use Rattle.luks_kdf.proofs.sha1_block.first_step.Goals as goal

pub returns : goal.returns
returns g c = λ j b h in_lane block held.
    rounds_first b h (lane j c.args.w.now) (lane j c.args.v) c.args.t _ _ _ c.requires
    (window1_of_block j c.args.w.now b block) held (sym (word_of_lane j c.args.w.now c.args.t))
    (of_three ch j c.args.v _ (c.ch.ensures j in_lane)) (rw c.round_constant.ensures at (c.round.ensures j in_lane))
