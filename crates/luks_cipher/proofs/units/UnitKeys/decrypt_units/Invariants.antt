use Rattle.std.proofs.Common.{List, ℕ}
use Rattle.luks_cipher.specs.Expanded.{AreKeysOf}
use Rattle.luks_cipher.proofs.PairLemmas.{AreDecrypted}
use Rattle.luks_cipher.proofs.units.UnitKeys.decrypt_units.Given as goal

-- the sectors before number i are decrypted
abbrev pub invariant-units : goal.invariant-units
invariant-units l = (key : List ℕ) → AreKeysOf key l.self.mode l.self.round_keys.now l.self.iv_or_tweak.now
    → AreDecrypted l.self.mode key l.first l.size l.fn.units l.units l.i
