use Rattle.luks_aes.proofs.BatchMixLemmas.{reduced_bits, doubled_with}
use Rattle.luks_aes.proofs.batch.inv_mix_columns.SharedValues.reduced.Goals as goal

pub returns-clause-to_1 : goal.returns-clause-to_1
returns-clause-to_1 g c = λ l y low all has top.
    doubled_with y 0 1 reduced_bits.0 all has top (c.xor-all.ensures l low) (c.xor-even.ensures l low)
    (c.xor-step.ensures l low)

pub returns-clause-to_3 : goal.returns-clause-to_3
returns-clause-to_3 g c = λ l y low all has top.
    doubled_with y 2 3 reduced_bits.1 all has top (c.xor-all.ensures l low) (c.xor-even.ensures l low)
    (c.xor-step.ensures l low)

pub returns-clause-to_4 : goal.returns-clause-to_4
returns-clause-to_4 g c = λ l y low all has top.
    doubled_with y 3 4 reduced_bits.2 all has top (c.xor-all.ensures l low) (c.xor-even.ensures l low)
    (c.xor-step.ensures l low)
