use Rattle.std.proofs.Common.{◌≡◌, ◌∙◌, ◌+◌, ◌*◌, ◌/◌, ◌<◌, arith, ap, inl, inr}
use Rattle.std.specs.Prelude.{slice_index}
use Rattle.std.specs.Int.{bit_at}
use Rattle.std.proofs.lemmas.Bool.{cases_lt}
use Rattle.std.proofs.lemmas.Nat.Bits.{bit_at_cat_low, bit_at_cat_high}
use Rattle.luks_aes.proofs.batch.round_keys.row_word.Goals as goal

pub returns : goal.returns
returns c =
    let block = c.args.block in
    let r = c.args.r in
    let j = c.args.j in
    let third = c.spread.ensures in
    let second = c.spread-2.ensures in
    let first = c.spread-3.ensures in
    let zeroth = c.spread-4.ensures in
    let high = c.spread.result * 65536 + c.spread-2.result in
    let low = c.spread-3.result * 65536 + c.spread-4.result in
    let fits : low < 4294967296 = omega (arith, first.range, zeroth.range) in
    record {
      at = λ q inside. elim (cases_lt q 32) [
        | inl below ↦
            bit_at_cat_low high 32 low q below
            ∙ elim (cases_lt q 16) [
              | inl lowest ↦
                  let at : r ≡ r + 4 * (q / 16) = omega arith in
                  bit_at_cat_low c.spread-3.result 16 c.spread-4.result q lowest ∙ zeroth.bits q lowest
                  ∙ ap (λ k. bit_at (slice_index block k) j) at
              | inr more ↦
                  let at : r + 4 ≡ r + 4 * (q / 16) = omega arith in
                  bit_at_cat_high c.spread-3.result 16 c.spread-4.result q zeroth.range (omega arith)
                  ∙ first.bits _ (omega arith) ∙ ap (λ k. bit_at (slice_index block k) j) at
            ]
        | inr above ↦
            bit_at_cat_high high 32 low q fits (omega arith)
            ∙ elim (cases_lt q 48) [
              | inl lower ↦
                  let at : r + 8 ≡ r + 4 * (q / 16) = omega arith in
                  bit_at_cat_low c.spread.result 16 c.spread-2.result _ (omega arith) ∙ second.bits _ (omega arith)
                  ∙ ap (λ k. bit_at (slice_index block k) j) at
              | inr more ↦
                  let at : r + 12 ≡ r + 4 * (q / 16) = omega arith in
                  bit_at_cat_high c.spread.result 16 c.spread-2.result _ second.range (omega arith)
                  ∙ third.bits _ (omega arith) ∙ ap (λ k. bit_at (slice_index block k) j) at
            ]
      ];
    }
