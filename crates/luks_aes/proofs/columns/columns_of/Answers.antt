use Rattle.std.proofs.Common.{sym, ◌∙◌, ◌++◌, arith}
use Rattle.luks_aes.specs.Columns.{bytes_of_words}
use Rattle.luks_aes.proofs.Undone.{whole_state}
use Rattle.luks_aes.proofs.columns.columns_of.Goals as goal

pub returns : goal.returns
unfolding bytes_of_words
returns c =
    (λ i. c.column_from.ensures i
    ++ (c.column_from-2.ensures i ++ (c.column_from-3.ensures i ++ c.column_from-4.ensures i)))
    ∙ sym (whole_state c.args.block (omega arith))
