use Rattle.std.proofs.Common.{◌≡◌, ◌∙◌, ◌*◌, sym, arith}
use Rattle.std.proofs.lemmas.List.{take_all}
use Rattle.sha2.proofs.Absorbing512.{digest_more}
use Rattle.luks_kdf.proofs.sha512_chains.store.Goals as goal

pub words-preserved : goal.words-preserved
words-preserved g c =
    digest_more c.words.out c.args.x.now _ c.words.i _ c.words.invariant (omega arith)
    (c.copy_from_slice.ensures.after ∙ c.to_be_bytes.ensures)

pub returns : goal.returns
returns g c =
    let done : c.words.i ≡ g.row.WORDS = omega arith in
    sym (take_all (8 * g.row.WORDS) c.words.out (omega arith)) ∙ rw done at c.words.invariant
