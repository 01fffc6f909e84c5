use Rattle.std.proofs.Common.{◌∙◌, List, [], ℕ, arith, ap}
use Rattle.std.proofs.lemmas.List.{get_or-set_other}
use Rattle.luks_argon2.specs.Block.{block_row, xor_rows}
use Rattle.luks_argon2.proofs.BlockLemmas.{all_rows, one_more_row}
use Rattle.luks_argon2.proofs.block.xor_into.Goals as goal

pub rows-preserved : goal.rows-preserved
rows-preserved c =
    let i = c.rows.i in
    let x = c.args.x.now in
    let y = c.args.y.now in (
      one_more_row c.rows.x (λ k. xor_rows (block_row x k) (block_row y k)) i _ (omega arith)
          (c.xor_rows.ensures ∙ ap (λ (r : List ℕ). xor_rows r (block_row y i)) (c.rows.invariant.1 i (omega arith)))
          c.rows.invariant.0,
      λ k le. get_or-set_other c.rows.x i k _ [] (omega arith) ∙ c.rows.invariant.1 k (omega arith),
    )

pub returns : goal.returns
returns c = all_rows _ _ c.rows.i (omega arith) c.rows.invariant.0
