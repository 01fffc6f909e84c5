use Rattle.std.proofs.Common.{◌∙◌, [], ap, arith}
use Rattle.std.proofs.lemmas.List.{get_or-set_other}
use Rattle.luks_argon2.specs.Block.{block_row}
use Rattle.luks_argon2.specs.Permutation.{permutation}
use Rattle.luks_argon2.proofs.BlockLemmas.{all_rows, one_more_row}
use Rattle.luks_argon2.proofs.compression.permute_rows.Goals as goal

pub rows-preserved : goal.rows-preserved
rows-preserved c =
    let i = c.rows.i in (
      one_more_row c.rows.x (λ k. permutation (block_row c.args.x.now k)) i _ (omega arith)
          (c.permute.ensures ∙ ap permutation (c.rows.invariant.1 i (omega arith))) c.rows.invariant.0,
      λ k le. get_or-set_other c.rows.x i k _ [] (omega arith) ∙ c.rows.invariant.1 k (omega arith),
    )

pub returns : goal.returns
returns c = all_rows _ _ c.rows.i (omega arith) c.rows.invariant.0
