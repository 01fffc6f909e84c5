use Rattle.std.proofs.Common.{arith}
use Rattle.luks_aes.proofs.inv_mixed.inv_mixed_words.Goals as goal

pub loop-i-init : goal.loop-i-init
loop-i-init c = record { at = λ i low. absurd (omega arith) }
