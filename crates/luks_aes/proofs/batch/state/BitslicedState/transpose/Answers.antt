use Rattle.std.proofs.Common.{◌≡◌, ◌∙◌, ◌+◌, ◌*◌, arith, ap, inl, inr, sym, slice_index}
use Rattle.std.specs.Int.{bit_at}
use Rattle.std.proofs.lemmas.Bool.{cases_lt}
use Rattle.luks_aes.specs.Words.{words_at}
use Rattle.luks_aes.proofs.batch.state.BitslicedState.transpose.Goals as goal

pub loop-i-preserved : goal.loop-i-preserved
loop-i-preserved g c =
    let before = c.loop-i.invariant in
    let i = c.loop-i.i in
    let put = c.put_words.ensures in
    record {
      done = λ n j p k low plane byte bit. elim (cases_lt n i) [
        | inl below ↦
            ap (λ x. bit_at (slice_index x j) (8 * p + k)) (put.others n (λ e. omega (arith, e, below)))
            ∙ before.done n j p k below plane byte bit
        | inr above ↦
            let e : n ≡ i = omega arith in
            let old = c.words_at.ensures ∙ ap (λ m. words_at m c.loop-i.self) (sym e) ∙ before.rest n (omega arith) in
            ap (λ x. bit_at (slice_index x j) (8 * p + k)) (ap (λ m. words_at m c.put_words.new.self) e ∙ put.here)
            ∙ c.transposed.ensures j p k plane byte bit
            ∙ ap (λ x. bit_at (slice_index x k) (8 * p + j)) old
      ];
      rest = λ n more. put.others n (λ e. omega (arith, e)) ∙ before.rest n (omega arith);
    }

pub returns : goal.returns
returns g c = λ i j p k inside plane byte bit. c.loop-i.invariant.done i j p k (omega arith) plane byte bit
