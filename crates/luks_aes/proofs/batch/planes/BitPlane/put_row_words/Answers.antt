use Rattle.std.proofs.Common.{◌/◌, arith}
use Rattle.luks_aes.proofs.PackLemmas.{other_group, kept_by_set}
use Rattle.luks_aes.proofs.batch.planes.BitPlane.put_row_words.Goals as goal

pub returns-clause-others : goal.returns-clause-others
returns-clause-others g c = λ r h low inside other.
    other_group (g.row.WORDS / 4) c.args.g 1 h r (omega arith) inside (λ e f. other (omega (arith, e, f))) low
    (kept_by_set _ _ _) (kept_by_set _ _ _) (kept_by_set _ _ _) (kept_by_set _ _ _)
