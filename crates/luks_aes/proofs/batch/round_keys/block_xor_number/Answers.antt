use Rattle.std.proofs.lemmas.Grind.{common_steps}
use Rattle.std.proofs.Common.{arith}
use Rattle.luks_aes.proofs.StateLemmas.{filled_more, filled_all, cell_at}
use Rattle.luks_aes.proofs.batch.round_keys.block_xor_number.Goals as goal

pub loop-i-preserved : goal.loop-i-preserved
loop-i-preserved c = grind (arith, common_steps, cell_at, filled_more)

pub returns : goal.returns
returns c = filled_all _ _ _ c.loop-i.invariant (omega arith)
