use Rattle.std.proofs.lemmas.Grind.{common_steps}
use Rattle.std.proofs.Common.{◌≡◌, ◌∙◌, ◌*◌, arith, ap, inl, inr, sym}
use Rattle.std.specs.Int.{bit_at}
use Rattle.std.proofs.lemmas.Bool.{cases_lt}
use Rattle.std.proofs.lemmas.Nat.Bits.{bit_at-zero, bit_at_ones, bit_at-lt, shr_and_one}
use Rattle.luks_aes.proofs.batch.round_keys.spread.Goals as goal

pub returns-clause-bits : goal.returns-clause-bits
returns-clause-bits c = λ q low.
    let bit : c.from.result ≡ bit_at c.args.byte c.args.j = c.from.ensures ∙ shr_and_one c.args.byte c.args.j in
    elim (cases_lt c.from.result 1) [
      | inl none ↦ grind (arith, common_steps, bit_at-zero)
      | inr some ↦
          let one : c.from.result ≡ 1 = omega (arith, bit, bit_at-lt c.args.byte c.args.j) in
          ap (λ n. bit_at (n * 65535) q) one ∙ bit_at_ones 16 q low ∙ sym one ∙ bit
    ]
