use Rattle.std.proofs.Common.{◌≡◌, ◌+◌, ◌*◌, ◌/◌, ◌%◌, arith, ap, ◌∙◌, sym, []}
use Rattle.std.specs.Prelude.{slice_index, slice_index_or, bit_xor}
use Rattle.std.specs.Int.{bit_at}
use Rattle.luks_aes.proofs.PairLemmas.{below_2}
use Rattle.luks_aes.specs.Blocks.{masked_byte}
use Rattle.luks_aes.proofs.PackLemmas.{bit_xored_twice}
use Rattle.luks_aes.proofs.batch.packing.put_masked_rows.Goals as goal

pub returns-clause-here : goal.returns-clause-here
returns-clause-here c = λ e i k one low small.
    let n = c.args.n in
    let first = c.put_masked_block.ensures in
    let second = c.put_masked_block-2.ensures in
    let rows = c.pair_of_rows-pair.ensures in
    let batch = c.put_masked_block-2.new.batch in
    let mask = c.args.mask.now in
    let whole : 16 * (n + 8 * 0) + i ≡ 16 * n + i = omega arith in
    let kept : slice_index batch (16 * n + i) ≡ slice_index c.put_masked_block.new.batch (16 * n + i) =
    second.before (16 * n + i) (omega arith) in
    below_2
    (λ e. bit_at (masked_byte batch mask (n + 8 * e) i) k
    ≡ bit_at (slice_index c.args.rows (i % 4)) (8 * (2 * (i / 4) + e) + k))
    (bit_xored_twice _ _ _ k (ap (slice_index batch) whole ∙ kept ∙ first.here i low
    ∙ ap (λ m. bit_xor (slice_index (slice_index_or c.pair_of_rows-pair.result 0 []) i) (slice_index mask m))
    (sym whole))
    ∙ rows 0 i k (omega arith) low small)
    (bit_xored_twice _ _ _ k (second.here i low) ∙ rows 1 i k (omega arith) low small)
    e one
