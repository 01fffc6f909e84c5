use Rattle.std.proofs.Common.{List, ℕ, refl, subst, sym}
use Rattle.luks_aes.specs.KeySchedule.{IsScheduleOf}
use Rattle.luks_cipher.proofs.UnitLemmas.{data_keys_of, halves}
use Rattle.luks_cipher.proofs.xts.XtsKey.unit_keys.Goals as goal

pub returns : goal.returns
returns c =
    let first = c.self.inside.data_key in
    let second = c.self.inside.tweak_key in
    let same = c.self.invariant.same_length in
    let half = (halves first second c.args.self.now same c.self.view_is).1 in
    record {
      mode = refl;
      keys = record {
        first = data_keys_of first second c.args.self.now same c.self.view_is _ c.round_keys.ensures;
        second = subst (λ (k : List ℕ). IsScheduleOf k c.schedule.result.now) (sym half) c.schedule.ensures;
      };
    }
