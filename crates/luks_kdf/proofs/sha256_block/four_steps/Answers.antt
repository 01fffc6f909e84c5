use Rattle.std.proofs.Common.{arith}
use Rattle.luks_kdf.proofs.LaneLemmas.{pair_at}
use Rattle.luks_kdf.proofs.sha256_block.four_steps.Goals as goal

pub returns : goal.returns
returns c = λ j b h in_lane held.
    let s1 = c.step-v.ensures j b h in_lane held in
    let s2 = c.step-v-2.ensures j b h in_lane s1 in
    let s3 = c.step-v-3.ensures j b h in_lane (pair_at j b h _ _ _ _ (omega arith) s2) in
    let s4 = c.step.ensures j b h in_lane (pair_at j b h _ _ _ _ (omega arith) s3) in
    pair_at j b h _ _ _ _ (omega arith) s4
