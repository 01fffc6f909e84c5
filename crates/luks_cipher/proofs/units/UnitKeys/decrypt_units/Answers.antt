use Rattle.std.proofs.Common.{◌≡◌, ◌≤◌, ◌*◌, ◌/◌, ◌+◌, length, arith, ap, refl, ◌∙◌}
use Rattle.std.proofs.Math.Nat.{div-mul_cancel, dvd_of_mod-eq-zero, le-div_iff_mul-le}
use Rattle.luks_cipher.specs.Sector.{units_decrypted}
use Rattle.luks_cipher.proofs.PairLemmas.{one_decrypted}
use Rattle.luks_cipher.proofs.UnitLemmas.{done_all, done_none}
use Rattle.luks_cipher.proofs.units.UnitKeys.decrypt_units.Goals as goal

pub units-init : goal.units-init
units-init c = λ key are. done_none _ _ _

pub units-preserved : goal.units-preserved
units-preserved c = λ key are.
    let i = c.units.i in
    let size = c.args.size in
    let fits : (i + 1) * size ≤ length c.args.units.now =
    (le-div_iff_mul-le {k = size} {x = i + 1} {y = length c.args.units.now} (omega arith)).0 (omega arith) in
    one_decrypted c.args.self.now.mode key c.args.first size c.args.units.now c.units.units c.decrypt_unit.new.unit i _
    _ _ _ (c.units.invariant key are) refl (omega arith) (omega arith) (omega arith) (omega arith) (omega arith)
    (c.decrypt_unit.ensures key are)

pub returns : goal.returns
unfolding units_decrypted
returns c = λ key are.
    let size = c.args.size in
    let len = length c.args.units.now in
    let last : c.units.i ≡ len / size = omega arith in
    let all = ap (λ n. n * size) last ∙ div-mul_cancel size (dvd_of_mod-eq-zero size c.requires.whole) in
    done_all _ _ c.args.units.now c.units.units c.units.i _ (c.units.invariant key are) (omega (arith, all)) last
