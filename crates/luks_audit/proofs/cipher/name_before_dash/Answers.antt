use Rattle.std.proofs.Common.{◌≡◌, ◌==◌, ℕ, Some, None, refl, position, sym}
use Rattle.luks_audit.specs.Cipher.{name_before_dash}
use Rattle.luks_audit.proofs.cipher.name_before_dash.Goals as goal

pub returns-in-Some : goal.returns-in-Some
unfolding name_before_dash
returns-in-Some c =
    let is : position (λ (byte : ℕ). byte == 45) c.args.cipher.now ≡ Some c.in-Some.dash = sym c.in-Some.ensures.value
    in rw is refl

pub returns-in-None : goal.returns-in-None
unfolding name_before_dash
returns-in-None c =
    let is : position (λ (byte : ℕ). byte == 45) c.args.cipher.now ≡ None = sym c.in-None.ensures.value in rw is refl
