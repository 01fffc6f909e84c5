use Rattle.std.proofs.Common.{◌≡◌, ℕ, ◌+◌, ◌*◌, ◌/◌, ◌%◌, arith, sym, ap, subst, ◌∙◌, inl, inr}
use Rattle.std.specs.Prelude.{slice_index}
use Rattle.std.specs.Int.{bit_at}
use Rattle.std.proofs.lemmas.Bool.{cases_lt}
use Rattle.luks_aes.specs.Field.{◌⊕◌}
use Rattle.luks_aes.specs.Blocks.{masked_byte}
use Rattle.luks_aes.specs.Words.{words_at}
use Rattle.luks_aes.proofs.PackLemmas.{byte_of_bits, state_byte_at, word_inside}
use Rattle.luks_aes.proofs.batch.state.BitslicedState.unpack.Goals as goal

pub loop-g-preserved : goal.loop-g-preserved
loop-g-preserved g c = record {
  bytes = record { each = λ k. (c.type_inv.batch k).fits };
  done = λ h j e i k before which one low small.
      elim (cases_lt h c.loop-g.g) [
        | inl below ↦
            let other : (16 * h + j + 8 * e) / 16 ≡ h = omega arith in
            ap (λ b. bit_at (b ⊕ slice_index c.args.mask.now (16 * (16 * h + j + 8 * e) + i)) k)
            (c.unpack_group.ensures.others (16 * h + j + 8 * e) i (λ q. omega (arith, q, other)) low)
            ∙ c.loop-g.invariant.done h j e i k below which one low small
        | inr above ↦
            let here : h ≡ c.loop-g.g = omega arith in
            subst
            (λ (x : ℕ). bit_at (masked_byte c.unpack_group.new.batch c.args.mask.now (16 * x + j + 8 * e) i) k
            ≡ bit_at (slice_index (words_at (g.row.WORDS / 4 * (i % 4) + x) c.transpose.new.self) j)
            (8 * (2 * (i / 4) + e) + k))
            (sym here) (c.unpack_group.ensures.here j e i k which one low small)
      ];
}

pub returns : goal.returns
returns g c = λ s bytes is m i inside low.
    let mask = c.args.mask.now in
    let h = m / 16 in
    let j = m % 8 in
    let e = m / 8 % 2 in
    let p = 2 * (i / 4) + e in
    let block : 16 * h + j + 8 * e ≡ m = omega arith in
    let w = g.row.WORDS / 4 * (i % 4) + h in
    byte_of_bits (slice_index c.loop-g.batch (16 * m + i)) (slice_index mask (16 * m + i)) (slice_index (s m) i)
    (c.loop-g.invariant.bytes.each (16 * m + i)) (c.type_inv.mask (16 * m + i)).fits ((bytes m).each i)
    (λ k small.
    ap (λ n. bit_at (masked_byte c.loop-g.batch mask n i) k) (sym block)
    ∙ c.loop-g.invariant.done h j e i k (omega arith) (omega arith) (omega arith) low small
    ∙ c.transpose.ensures w j p k
    (word_inside g.row.WORDS (i % 4) h c.requires.whole (omega arith) (omega arith)) (omega arith) (omega arith) small
    ∙ ((is.bytes.at h (omega arith)).at (i % 4) (omega arith)).at k (8 * p + j) small (omega arith)
    ∙ ap (λ b. bit_at b k) (state_byte_at s m i low))
