use Rattle.luks_aes.specs.Field.{◌⊕◌}
use Rattle.luks_aes.specs.Aes.{cell}
use Rattle.luks_aes.proofs.StateLemmas.{IsFilled}
use Rattle.luks_aes.proofs.batch.round_keys.block_xor_number.Given as goal

abbrev pub invariant-loop-i : goal.invariant-loop-i
invariant-loop-i l = IsFilled (λ r c. cell l.block r c ⊕ l.number) l.xored l.i
