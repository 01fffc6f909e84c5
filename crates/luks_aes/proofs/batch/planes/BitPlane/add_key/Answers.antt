use Rattle.std.proofs.Common.{◌≡◌, ◌+◌, ◌<◌, ℕ, arith, sym, subst}
use Rattle.luks_aes.specs.Field.{◌⊕◌}
use Rattle.luks_aes.specs.Words.{AreRowsOf}
use Rattle.luks_aes.proofs.BatchMixLemmas.{as_rows}
use Rattle.luks_aes.proofs.batch.planes.BitPlane.add_key.Goals as goal

pub returns-clause-plane : goal.returns-clause-plane
returns-clause-plane g c = λ y z j is key.
    let at : c.args.g + 0 ≡ c.args.g = omega arith in
    let n = g.row.WORDS in
    let old = c.rows-rows.ensures in
    let other = c.rows.ensures in
    let new = c.put_rows.ensures in
    let low : 0 < 1 = omega arith in
    subst (λ (i : ℕ). AreRowsOf (λ r q. y r q ⊕ z r q) j n c.put_rows.new.self.words i) at
    (as_rows (new.row_0 0 low) (new.row_1 0 low) (new.row_2 0 low) (new.row_3 0 low)
    (c.keyed.ensures 0 y z j low
    (as_rows (old.row_0 0 low) (old.row_1 0 low) (old.row_2 0 low) (old.row_3 0 low)
    (subst (λ (i : ℕ). AreRowsOf y j n c.args.self.now.words i) (sym at) is))
    (as_rows (other.row_0 0 low) (other.row_1 0 low) (other.row_2 0 low) (other.row_3 0 low)
    (subst (λ (i : ℕ). AreRowsOf z j 16 c.args.key.now.words i) (sym at) key))))
