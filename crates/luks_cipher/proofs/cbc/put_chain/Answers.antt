use Rattle.std.proofs.Common.{◌∙◌, ap, arith}
use Rattle.luks_cipher.specs.Xts.{block_at}
use Rattle.luks_cipher.proofs.UnitLemmas.{chain_block, put_after}
use Rattle.luks_cipher.proofs.cbc.put_chain.Goals as goal

pub returns : goal.returns
returns c = λ n low.
    ap (λ x. block_at x n)
    (put_after c.args.before c.args.batch.now c.args.chain.now _ _ c.requires.capacity (omega arith)
    c.copy_from_slice.ensures.after c.copy_from_slice-2.ensures.after)
    ∙ chain_block c.args.before c.args.batch.now n (omega arith) low
