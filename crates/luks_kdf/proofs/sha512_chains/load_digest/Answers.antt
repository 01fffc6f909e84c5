use Rattle.std.proofs.Common.{rules, ◌≡◌, ◌∙◌, ◌*◌, arith, inl, inr}
use Rattle.std.proofs.lemmas.Bool.{cases_lt}
use Rattle.std.proofs.lemmas.List.{get_or-set_other, get_or-set_same, take_all}
use Rattle.std.specs.Int.{to_be_bytes, w64}
use Rattle.sha2.specs.Sha512.{digest_bytes, word_at}
use Rattle.luks_kdf.proofs.WordLemmas.{spells64, words_of_bytes}
use Rattle.luks_kdf.proofs.sha512_chains.load_digest.Goals as goal

pub words-preserved : goal.words-preserved
words-preserved g c =
    let words = c.words.words in
    let k = c.words.k in (
      search rules,
      λ i below. elim (cases_lt i k) [
        | inl before ↦ get_or-set_other words k i c.load_be64.result 0 (omega arith) ∙ c.words.invariant.1 i before
        | inr at ↦
            let last : k ≡ i = omega arith in
            rw (← last) (get_or-set_same words k c.load_be64.result 0 (omega arith) ∙ c.load_be64.ensures)
      ],
    )

pub returns : goal.returns
returns g c =
    let n = g.row.WORDS in
    let digest = c.args.digest.now in
    words_of_bytes digest_bytes (to_be_bytes w64) word_at 8 spells64 c.words.words digest
    (λ i. (c.type_inv.digest i).fits) n (omega arith) (λ k below. c.words.invariant.1 k (omega arith))
    ∙ take_all (8 * n) digest (omega arith)
