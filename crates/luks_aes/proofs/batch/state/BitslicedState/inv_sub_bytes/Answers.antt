use Rattle.std.proofs.Common.{◌≡◌, ◌∙◌, arith, ap, inl, inr, sym}
use Rattle.std.proofs.lemmas.Bool.{cases_lt}
use Rattle.luks_aes.specs.Words.{words_at}
use Rattle.luks_aes.proofs.WordLemmas.{held_by}
use Rattle.luks_aes.proofs.batch.state.BitslicedState.inv_sub_bytes.Goals as goal

pub loop-i-preserved : goal.loop-i-preserved
loop-i-preserved g c =
    let before = c.loop-i.invariant in
    let i = c.loop-i.i in
    let put = c.put_words.ensures in
    record {
      done = λ n low y held. elim (cases_lt n i) [
        | inl below ↦ held_by (put.others n (λ e. omega (arith, e, below))) (before.done n below y held)
        | inr above ↦
            let e : n ≡ i = omega arith in
            held_by (ap (λ m. words_at m c.put_words.new.self) e ∙ put.here)
            (c.inv_sbox_circuit.ensures y
            (held_by (c.words_at.ensures ∙ ap (λ m. words_at m c.loop-i.self) (sym e) ∙ before.rest n (omega arith))
            held))
      ];
      rest = λ n more. put.others n (λ e. omega (arith, e)) ∙ before.rest n (omega arith);
    }

pub returns : goal.returns
returns g c = λ i y inside held. c.loop-i.invariant.done i (omega arith) y held
