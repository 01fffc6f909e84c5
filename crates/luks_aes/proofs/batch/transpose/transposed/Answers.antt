use Rattle.std.proofs.Common.{refl}
use Rattle.luks_aes.specs.declared.batch.transpose.Run.TheVariants.{Bit, Pair, Nibble}
use Rattle.luks_aes.proofs.ShiftLemmas.{bits_low, bits_high, bits_also, equal_below_8, own_bits, turned}
use Rattle.luks_aes.proofs.ShiftLemmas.{transposed_if}
use Rattle.luks_aes.proofs.batch.transpose.transposed.Goals as goal

pub returns : goal.returns
returns c =
    let x = c.args.x in
    let a0 = bits_low Bit (own_bits x 0) (own_bits x 1) c.exchanged-a0.ensures.low in
    let a1 = bits_high Bit (own_bits x 0) (own_bits x 1) c.exchanged-a0.ensures.high in
    let a2 = bits_low Bit (own_bits x 2) (own_bits x 3) c.exchanged-a2.ensures.low in
    let a3 = bits_high Bit (own_bits x 2) (own_bits x 3) c.exchanged-a2.ensures.high in
    let a4 = bits_low Bit (own_bits x 4) (own_bits x 5) c.exchanged-a4.ensures.low in
    let a5 = bits_high Bit (own_bits x 4) (own_bits x 5) c.exchanged-a4.ensures.high in
    let a6 = bits_low Bit (own_bits x 6) (own_bits x 7) c.exchanged-a6.ensures.low in
    let a7 = bits_high Bit (own_bits x 6) (own_bits x 7) c.exchanged-a6.ensures.high in
    let b0 = bits_low Pair a0 a2 c.exchanged-b0.ensures.low in
    let b2 = bits_high Pair a0 a2 c.exchanged-b0.ensures.high in
    let b1 = bits_low Pair a1 a3 c.exchanged-b1.ensures.low in
    let b3 = bits_high Pair a1 a3 c.exchanged-b1.ensures.high in
    let b4 = bits_low Pair a4 a6 c.exchanged-b4.ensures.low in
    let b6 = bits_high Pair a4 a6 c.exchanged-b4.ensures.high in
    let b5 = bits_low Pair a5 a7 c.exchanged-b5.ensures.low in
    let b7 = bits_high Pair a5 a7 c.exchanged-b5.ensures.high in
    let c0 = bits_low Nibble b0 b4 c.exchanged-c0.ensures.low in
    let c4 = bits_high Nibble b0 b4 c.exchanged-c0.ensures.high in
    let c1 = bits_low Nibble b1 b5 c.exchanged-c1.ensures.low in
    let c5 = bits_high Nibble b1 b5 c.exchanged-c1.ensures.high in
    let c2 = bits_low Nibble b2 b6 c.exchanged-c2.ensures.low in
    let c6 = bits_high Nibble b2 b6 c.exchanged-c2.ensures.high in
    let c3 = bits_low Nibble b3 b7 c.exchanged-c3.ensures.low in
    let c7 = bits_high Nibble b3 b7 c.exchanged-c3.ensures.high in
    transposed_if x _ _ _ _ _ _ _ _
    (bits_also (turned x 0) c0 (λ p. equal_below_8 _ _ refl refl refl refl refl refl refl refl))
    (bits_also (turned x 1) c1 (λ p. equal_below_8 _ _ refl refl refl refl refl refl refl refl))
    (bits_also (turned x 2) c2 (λ p. equal_below_8 _ _ refl refl refl refl refl refl refl refl))
    (bits_also (turned x 3) c3 (λ p. equal_below_8 _ _ refl refl refl refl refl refl refl refl))
    (bits_also (turned x 4) c4 (λ p. equal_below_8 _ _ refl refl refl refl refl refl refl refl))
    (bits_also (turned x 5) c5 (λ p. equal_below_8 _ _ refl refl refl refl refl refl refl refl))
    (bits_also (turned x 6) c6 (λ p. equal_below_8 _ _ refl refl refl refl refl refl refl refl))
    (bits_also (turned x 7) c7 (λ p. equal_below_8 _ _ refl refl refl refl refl refl refl refl))
