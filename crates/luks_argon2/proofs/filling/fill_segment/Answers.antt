use Rattle.std.proofs.Common.{◌≡◌, ◌∙◌, ◌+◌, ◌/◌, arith, refl, sym}
use Rattle.luks_argon2.specs.Fill.{block_filled}
use Rattle.luks_argon2.proofs.FillLemmas.{first_filled_small, segment_next, segment_start}
use Rattle.luks_argon2.proofs.filling.fill_segment.Goals as goal

pub columns-init : goal.columns-init
columns-init c =
    let v = c.args.variant in
    let s = c.args.layout in
    let p = c.args.segment in
    let small = first_filled_small p in
    let first = c.first_filled-i.ensures in (
      sym (segment_start v s p c.args.memory.now c.first_filled-i.result (omega arith)),
      λ independent some.
          let counter : c.first_filled-i.result / 128 + 1 ≡ 1 = omega arith in
          rw counter c.address_block-words.ensures,
    )

pub columns-preserved : goal.columns-preserved
unfolding block_filled
columns-preserved c =
    let v = c.args.variant in
    let s = c.args.layout in
    let p = c.args.segment in
    let i = c.columns.i in
    let first = c.first_filled-i.ensures in
    let filled : c.compress_into.new.memory ≡ block_filled v s p c.columns.memory i =
    c.compress_into.ensures ∙ rw (
      c.reference_index-reference.ensures.value,
      c.pseudorandom-word.ensures.value,
      c.previous_index-previous.ensures.value,
    ) refl in (
      filled ∙ rw c.columns.invariant.0 (sym (segment_next v s p c.args.memory.now i (omega arith))),
      λ independent some.
          let counter : (i + 1) / 128 ≡ i / 128 = omega arith in
          rw counter (c.pseudorandom-word.ensures.words independent),
    )

pub returns : goal.returns
returns c =
    let small = first_filled_small c.args.segment in
    let first = c.first_filled-i.ensures in
    let done : c.columns.i ≡ c.args.layout.segment_len = omega (arith, c.columns.auto.i-end (omega arith)) in
    rw done at c.columns.invariant.0
