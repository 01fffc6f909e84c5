use Rattle.std.proofs.Common.{◌∙◌, ap, rules}
use Rattle.luks_aes.specs.Shuffles.{even_positions}
use Rattle.luks_aes.proofs.PairLemmas.{pair_of_rows_at}
use Rattle.luks_aes.proofs.batch.pairs.pair_of_rows.Goals as goal

pub returns : goal.returns
returns c =
    pair_of_rows_at c.args.rows
    c.even_positions-low.result c.even_positions-high.result
    (c.even_positions-low.ensures ∙ ap even_positions c.pair_bytes.ensures)
    (c.even_positions-high.ensures ∙ ap even_positions c.pair_bytes-2.ensures)
    (search rules) (search rules) c.by_rows.result c.by_rows-2.result c.by_rows.ensures c.by_rows-2.ensures
