use Rattle.luks_cipher.proofs.UnitLemmas.{data_keys_of}
use Rattle.luks_cipher.proofs.xts.XtsKey.decrypt_pair.Goals as goal

pub returns : goal.returns
returns c =
    c.decrypt_both.ensures c.args.self.now c.args.first c.args.second
    (data_keys_of c.self.inside.data_key c.self.inside.tweak_key c.args.self.now c.self.invariant.same_length
    c.self.view_is _ c.round_keys.ensures)
    c.first_tweak-first_tweak.ensures.value c.first_tweak-second_tweak.ensures.value
