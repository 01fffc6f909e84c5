use Rattle.std.proofs.Common.{refl}
use Rattle.sha1.specs.Sha1.{rounds}
use Rattle.luks_kdf.specs.LaneWords.{lane}
use Rattle.luks_kdf.proofs.LaneLemmas.{window1_of_block}
use Rattle.luks_kdf.proofs.sha1_block.first_twenty_steps.Goals as goal

pub returns : goal.returns
unfolding rounds
returns g c = λ j b in_lane block.
    let h = lane j c.args.v in
    let s1 = c.first_four_steps-v.ensures j b h in_lane block refl in
    let s2 = c.first_four_steps-v-2.ensures j b h in_lane block s1 in
    let s3 = c.first_four_steps-v-3.ensures j b h in_lane block s2 in
    let s4 = c.first_four_steps-v-4.ensures j b h in_lane block s3 in
    let p1 = c.step-v.ensures j b h in_lane (window1_of_block j c.args.w.now b block, s4) in
    let p2 = c.step-v-2.ensures j b h in_lane p1 in
    let p3 = c.step-v-3.ensures j b h in_lane p2 in
    c.step.ensures j b h in_lane p3
