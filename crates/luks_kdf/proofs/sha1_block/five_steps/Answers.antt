use Rattle.std.proofs.Common.{arith}
use Rattle.sha1.proofs.Schedule.{IsRoundsAt_at}
use Rattle.luks_kdf.proofs.sha1_block.five_steps.Goals as goal

pub returns : goal.returns
returns g c = λ j b h in_lane held.
    let s1 = c.step-v.ensures j b h in_lane held in
    let s2 = c.step-v-2.ensures j b h in_lane s1 in
    let s3 = c.step-v-3.ensures j b h in_lane (IsRoundsAt_at b h _ _ _ _ (omega arith) s2) in
    let s4 = c.step-v-4.ensures j b h in_lane (IsRoundsAt_at b h _ _ _ _ (omega arith) s3) in
    let s5 = c.step.ensures j b h in_lane (IsRoundsAt_at b h _ _ _ _ (omega arith) s4) in
    IsRoundsAt_at b h _ _ _ _ (omega arith) s5
