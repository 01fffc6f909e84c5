use Rattle.std.proofs.Common.{arith}
use Rattle.luks_kdf.proofs.LaneLemmas.{rounds_at}
use Rattle.luks_kdf.proofs.sha1_block.first_four_steps.Goals as goal

pub returns : goal.returns
returns g c = λ j b h in_lane block held.
    let at = rounds_at b h in
    let s1 = c.first_step-v.ensures j b h in_lane block held in
    let s2 = c.first_step-v-2.ensures j b h in_lane block s1 in
    let s3 = c.first_step-v-3.ensures j b h in_lane block (at _ _ _ (omega arith) s2) in
    let s4 = c.first_step.ensures j b h in_lane block (at _ _ _ (omega arith) s3) in
    at _ _ _ (omega arith) s4
