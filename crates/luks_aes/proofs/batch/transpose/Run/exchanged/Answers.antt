use Rattle.luks_aes.proofs.ShiftLemmas.{exchanged_low, exchanged_high}
use Rattle.luks_aes.proofs.batch.transpose.Run.exchanged.Goals as goal

pub returns-clause-low : goal.returns-clause-low
returns-clause-low c = λ q low.
    rw (c.bits.ensures.value, c.bits-2.ensures.value, c.low_mask.ensures)
    (exchanged_low c.args.self c.args.a c.args.b q low)

pub returns-clause-high : goal.returns-clause-high
returns-clause-high c = λ q low.
    rw (c.bits.ensures.value, c.low_mask.ensures) (exchanged_high c.args.self c.args.a c.args.b q low)
