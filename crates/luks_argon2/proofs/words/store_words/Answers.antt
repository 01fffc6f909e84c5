use Rattle.std.proofs.Common.{rules, ◌≡◌, ◌*◌, ◌∙◌, length, arith, sym, ap}
use Rattle.std.proofs.lemmas.List.{take_all}
use Rattle.std.proofs.lemmas.Slice.{overwrites}
use Rattle.luks_argon2.specs.Words.{le64_bytes}
use Rattle.luks_argon2.proofs.WordLemmas.{bytes_more}
use Rattle.luks_argon2.proofs.words.store_words.Goals as goal

pub words-preserved : goal.words-preserved
words-preserved c = (
  search (rules, overwrites),
  bytes_more c.words.bytes c.args.words.now _ c.words.i _ (omega arith) c.words.invariant.1 (omega arith)
      (c.copy_from_slice.ensures.after ∙ c.to_le_bytes.ensures),
)

pub returns : goal.returns
returns c =
    let words = c.args.words.now in
    let done : c.words.i ≡ length words = omega arith in
    let all = rw done at c.words.invariant.1 in
    sym (take_all (8 * length words) c.words.bytes (omega arith))
    ∙ (all ∙ ap le64_bytes (take_all (length words) words (omega arith)))
