-- What PBKDF2 and Argon2 together can derive.
use Rattle.std.specs.Prelude.{ℕ, ◌^◌, ◌<◌, List, length}
use Rattle.luks_format.specs.Derivation.{AreParameters}
use Rattle.luks_format.specs.declared.derivation.Derivation.{Derivation}
use Rattle.luks_format.specs.declared.derivation.Derivation.TheVariants.{Pbkdf2, Argon2}
use Rattle.luks_open.specs.Deriving.{IsPbkdf2}

-- PBKDF2 with a known hash function and iterations in range, or Argon2 with parameters, a passphrase and a salt in
-- range
abbrev pub CanDerive : Derivation → List ℕ → List ℕ → Type 0
CanDerive (Pbkdf2 hash iterations) pass salt = IsPbkdf2 (Pbkdf2 hash iterations)
CanDerive (Argon2 parameters) pass salt =
    AreParameters parameters × (length pass < 2 ^ 32) × (length salt < 2 ^ 32)
