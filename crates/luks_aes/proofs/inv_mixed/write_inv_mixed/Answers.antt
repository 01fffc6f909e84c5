use Rattle.std.proofs.Common.{arith, ◌∙◌}
use Rattle.luks_aes.proofs.MixingLemmas.{products_more}
use Rattle.luks_aes.proofs.inv_mixed.write_inv_mixed.Goals as goal

pub returns : goal.returns
returns c =
    products_more _ c.args.schedule.now c.args.inv_mixed.now _ c.args.i _ c.requires.before.1 (omega arith)
    (c.copy_from_slice.ensures.after ∙ c.inv_mixed_word.ensures)
