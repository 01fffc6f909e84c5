use Rattle.luks_aes.specs.Field.{◌⊕◌}
use Rattle.luks_aes.specs.Aes.{cell}
use Rattle.luks_aes.proofs.StateLemmas.{IsFilled}
use Rattle.luks_cipher.proofs.block.block_xor.Given as goal

abbrev pub invariant-loop-i : goal.invariant-loop-i
invariant-loop-i l = IsFilled (λ r c. cell l.a r c ⊕ cell l.b r c) l.xored l.i
