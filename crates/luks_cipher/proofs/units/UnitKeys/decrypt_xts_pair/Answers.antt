use Rattle.luks_cipher.specs.Xts.{tweak_key, tweak_of}
use Rattle.luks_cipher.proofs.units.UnitKeys.decrypt_xts_pair.Goals as goal

pub returns : goal.returns
unfolding tweak_of
returns c key are =
    c.decrypt_both.ensures key c.args.first c.args.second are.first
    (c.encrypted_number-tweak.ensures (tweak_key key) are.second)
    (c.encrypted_number-next.ensures (tweak_key key) are.second)
