use Rattle.std.proofs.Common.{◌∙◌}
use Rattle.luks_cipher.specs.Xts.{tweak_key, tweak_of}
use Rattle.luks_cipher.proofs.PairLemmas.{decrypted_from}
use Rattle.luks_cipher.proofs.units.UnitKeys.decrypt_xts.Goals as goal

pub returns : goal.returns
unfolding tweak_of
returns c key are =
    c.decrypt_batches.ensures.value key are.first
    ∙ decrypted_from key _ c.args.unit.now c.args.number (c.encrypted_number-tweak.ensures (tweak_key key) are.second)
