use Rattle.std.proofs.Common.{◌*◌, ◌/◌, ◌+◌, length, arith}
use Rattle.luks_cipher.specs.Sector.{units_decrypted}
use Rattle.luks_cipher.proofs.PairLemmas.{one_decrypted, two_decrypted}
use Rattle.luks_cipher.proofs.UnitLemmas.{done_all, done_none}
use Rattle.luks_cipher.proofs.units.UnitKeys.decrypt_in_pairs.Goals as goal

pub pairs-init : goal.pairs-init
pairs-init c = λ key are. done_none _ _ _

pub pairs-preserved : goal.pairs-preserved
pairs-preserved c = λ key are.
    two_decrypted c.args.self.now.mode key c.args.first c.args.units.now c.pairs.units c.decrypt_pair.new.pair
    c.pairs.i _ _ (c.pairs.invariant key are) (omega arith) (omega arith) (omega arith) (omega arith)
    (c.decrypt_pair.ensures key are)

pub returns-then-len-eq0 : goal.returns-then-len-eq0
unfolding units_decrypted
returns-then-len-eq0 c = λ key are.
    done_all 512 _ _ c.pairs.units (2 * c.pairs.i) _ (c.pairs.invariant key are) (omega arith) (omega arith)

pub returns : goal.returns
unfolding units_decrypted
returns c = λ key are.
    let mode = c.args.self.now.mode in
    let pairs = length c.args.units.now / 1024 in
    let last = one_decrypted mode key c.args.first 512 c.args.units.now c.pairs.units c.decrypt_unit.new.unit
    (2 * c.pairs.i) _ (2 * pairs + 1) _ _ (c.pairs.invariant key are) (omega arith) (omega arith) (omega arith)
    (omega arith) (omega arith) (omega arith) (c.decrypt_unit.ensures key are) in
    done_all _ _ c.args.units.now _ (2 * pairs + 1) _ last (omega arith) (omega arith)
