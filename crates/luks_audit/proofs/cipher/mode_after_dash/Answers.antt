use Rattle.std.proofs.Common.{◌≡◌, ◌∙◌, ◌+◌, ◌==◌, ℕ, Some, None, ap, drop, refl, length-drop, position, sym, take}
use Rattle.std.proofs.Math.Seq.{take-length}
use Rattle.luks_audit.specs.Cipher.{mode_after_dash}
use Rattle.luks_audit.proofs.cipher.mode_after_dash.Goals as goal

pub returns-in-Some : goal.returns-in-Some
unfolding mode_after_dash
returns-in-Some c =
    let text = c.args.cipher.now in
    let start = c.in-Some.dash + 1 in
    let is : position (λ (byte : ℕ). byte == 45) text ≡ Some c.in-Some.dash = sym c.in-Some.ensures.value in
    rw is (ap (λ n. take n (drop start text)) (sym (length-drop start text)) ∙ take-length (drop start text))

pub returns-in-None : goal.returns-in-None
unfolding mode_after_dash
returns-in-None c =
    let is : position (λ (byte : ℕ). byte == 45) c.args.cipher.now ≡ None = sym c.in-None.ensures.value in rw is refl
