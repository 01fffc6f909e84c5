use Rattle.std.proofs.Common.{◌∙◌, rules}
use Rattle.luks_aes.specs.Shuffles.{low_bytes, high_bytes}
use Rattle.luks_aes.proofs.PairLemmas.{rows_of_pair_at}
use Rattle.luks_aes.proofs.batch.pairs.rows_of_pair.Goals as goal

pub returns : goal.returns
returns c =
    let first = c.by_rows-first.ensures in
    let second = c.by_rows-second.ensures in
    rows_of_pair_at c.args.a c.args.b c.low_bytes.result c.high_bytes.result c.fits-a.0 c.fits-b.0
    (c.low_bytes.ensures ∙ (λ i. low_bytes (first i) (second i)))
    (c.high_bytes.ensures ∙ (λ i. high_bytes (first i) (second i)))
    (search rules) (search rules)
