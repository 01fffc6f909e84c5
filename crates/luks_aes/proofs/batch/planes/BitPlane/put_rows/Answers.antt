use Rattle.std.proofs.Common.{◌/◌, arith}
use Rattle.luks_aes.proofs.PackLemmas.{other_group, kept_outside}
use Rattle.luks_aes.proofs.batch.planes.BitPlane.put_rows.Goals as goal

pub returns-clause-below : goal.returns-clause-below
returns-clause-below g c = λ i below r low.
    other_group (g.row.WORDS / 4) c.args.g _ i r c.requires.inside (omega arith) (λ e f. omega (arith, e)) low
    (kept_outside _ _ c.store.ensures.before c.store.ensures.after)
    (kept_outside _ _ c.store-2.ensures.before c.store-2.ensures.after)
    (kept_outside _ _ c.store-3.ensures.before c.store-3.ensures.after)
    (kept_outside _ _ c.store-4.ensures.before c.store-4.ensures.after)

pub returns-clause-above : goal.returns-clause-above
returns-clause-above g c = λ i above inside r low.
    other_group (g.row.WORDS / 4) c.args.g _ i r c.requires.inside inside (λ e f. omega (arith, f)) low
    (kept_outside _ _ c.store.ensures.before c.store.ensures.after)
    (kept_outside _ _ c.store-2.ensures.before c.store-2.ensures.after)
    (kept_outside _ _ c.store-3.ensures.before c.store-3.ensures.after)
    (kept_outside _ _ c.store-4.ensures.before c.store-4.ensures.after)
