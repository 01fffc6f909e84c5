use Rattle.std.proofs.lemmas.Grind.{common_steps}
use Rattle.std.proofs.Common.{◌≡◌, ◌∙◌, arith, length-drop, length-take, rules}
use Rattle.std.proofs.lemmas.List.{take_all}
use Rattle.std.proofs.lemmas.Slice.{overwrites}
use Rattle.luks_argon2.proofs.TagLemmas.{rows_bytes_more}
use Rattle.luks_argon2.proofs.tag.hash_block.Goals as goal

pub rows-preserved : goal.rows-preserved
rows-preserved c = (
  search (rules, overwrites),
  rows_bytes_more c.rows.bytes _ c.args.block.now c.rows.i _ c.rows.invariant.1 (omega arith) c.store_words.ensures
      (c.store_words.auto.bytes ∙ simp (length-take, length-drop) (omega arith)),
)

pub returns : goal.returns
returns c =
    let done : c.rows.i ≡ 8 = omega arith in
    let all = rw done at c.rows.invariant.1 in
    grind (arith, common_steps, take_all, c.variable_length_hash.ensures)
