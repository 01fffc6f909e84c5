use Rattle.std.proofs.Common.{arith, refl}
use Rattle.luks_cipher.specs.Xts.{block_xor}
use Rattle.luks_aes.proofs.StateLemmas.{filled_none, filled_more, filled_all, cell_at}
use Rattle.luks_cipher.proofs.block.block_xor.Goals as goal

pub loop-i-init : goal.loop-i-init
loop-i-init c = filled_none _ _ refl

pub loop-i-preserved : goal.loop-i-preserved
loop-i-preserved c =
    let first = cell_at c.args.a c.loop-i.i in
    let second = cell_at c.args.b c.loop-i.i in
    filled_more _ _ _ _ c.loop-i.invariant (omega arith) (rw (first, second) refl)

pub returns : goal.returns
unfolding block_xor
returns c = filled_all _ _ _ c.loop-i.invariant (omega arith)
