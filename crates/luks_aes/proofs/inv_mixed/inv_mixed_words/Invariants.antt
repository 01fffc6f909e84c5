use Rattle.std.proofs.Common.{[], ◌∷◌}
use Rattle.luks_aes.specs.Columns.{IsMultiplied}
use Rattle.luks_aes.proofs.inv_mixed.inv_mixed_words.Given as goal

abbrev pub invariant-loop-i : goal.invariant-loop-i
invariant-loop-i l = IsMultiplied (14 ∷ 11 ∷ 13 ∷ 9 ∷ []) l.schedule l.inv_mixed l.i
