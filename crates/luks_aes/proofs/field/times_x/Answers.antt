use Rattle.std.proofs.Common.{◌≡◌, ℕ, ◌*◌, ◌%◌, ◌<◌, ltb, cond, ◌∙◌, refl, sym, arith}
use Rattle.std.specs.Int.Bits.{bit_xor}
use Rattle.std.proofs.lemmas.Bool.{cond_below, cond_above}
use Rattle.luks_aes.specs.Field.{times_x}
use Rattle.luks_aes.proofs.Bytes.{same_below}
use Rattle.luks_aes.proofs.field.times_x.Goals as goal

-- the product with x, as the code computes it
times_x_is : (b : ℕ) → b < 256 → times_x b ≡ cond (ltb b 128) (b * 2 % 256) (bit_xor (b * 2 % 256) 27)
unfolding times_x
times_x_is = same_below times_x (λ b. cond (ltb b 128) (b * 2 % 256) (bit_xor (b * 2 % 256) 27)) 256 refl

pub returns-then-b-lt128 : goal.returns-then-b-lt128
returns-then-b-lt128 c = cond_below c.args.b 128 _ _ c.if-b-lt128.true ∙ sym (times_x_is c.args.b (omega arith))

pub returns-else-b-lt128 : goal.returns-else-b-lt128
returns-else-b-lt128 c = cond_above c.args.b 128 _ _ _ c.if-b-lt128.false refl ∙ sym (times_x_is c.args.b (omega arith))
