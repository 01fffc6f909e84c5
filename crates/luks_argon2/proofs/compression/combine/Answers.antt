use Rattle.std.proofs.Common.{◌≡◌, ◌∙◌, List, ℕ, ap, arith, sym}
use Rattle.std.specs.Prelude.{if◌then◌else◌}
use Rattle.luks_argon2.specs.Block.{block_row, xor_blocks, xor_rows}
use Rattle.luks_argon2.proofs.BlockLemmas.{all_rows, one_more_row, row_of}
use Rattle.luks_argon2.proofs.compression.combine.Goals as goal

pub rows-preserved : goal.rows-preserved
rows-preserved c =
    let i = c.rows.i in
    let previous = c.args.previous.now in
    let reference = c.args.reference.now in
    let old = c.args.old.now in
    let again = c.args.again in
    let r = xor_blocks previous reference in
    let is : c.xor_rows-row.result ≡ block_row r i =
    c.xor_rows-row.ensures
    ∙ sym (row_of (λ k. xor_rows (block_row previous k) (block_row reference k)) i (omega arith)) in (
      one_more_row c.rows.xored (λ k. xor_rows (block_row previous k) (block_row reference k)) i _ (omega arith)
          c.xor_rows-row.ensures c.rows.invariant.0,
      one_more_row c.rows.kept (λ k. if again then xor_rows (block_row r k) (block_row old k) else block_row r k) i _
          (omega arith)
          (c.kept_row.ensures ∙ ap (λ (x : List ℕ). if again then xor_rows x (block_row old i) else x) is)
          c.rows.invariant.1,
    )

pub returns-clause-xored : goal.returns-clause-xored
returns-clause-xored c = all_rows _ _ c.rows.i (omega arith) c.rows.invariant.0

pub returns-clause-kept : goal.returns-clause-kept
returns-clause-kept c = all_rows _ _ c.rows.i (omega arith) c.rows.invariant.1
