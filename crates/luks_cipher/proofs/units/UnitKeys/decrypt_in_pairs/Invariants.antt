use Rattle.std.proofs.Common.{◌*◌, List, ℕ}
use Rattle.luks_cipher.specs.Expanded.{AreKeysOf}
use Rattle.luks_cipher.proofs.PairLemmas.{AreDecrypted}
use Rattle.luks_cipher.proofs.units.UnitKeys.decrypt_in_pairs.Given as goal

-- the sectors before this pair are decrypted
abbrev pub invariant-pairs : goal.invariant-pairs
invariant-pairs l = (key : List ℕ) → AreKeysOf key l.self.mode l.self.round_keys.now l.self.iv_or_tweak.now
    → AreDecrypted l.self.mode key l.first 512 l.fn.units l.units (2 * l.i)
