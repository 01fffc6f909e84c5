use Rattle.luks_cipher.proofs.PairLemmas.{equal_chains}
use Rattle.luks_cipher.proofs.units.UnitKeys.decrypt_pair.Goals as goal

pub returns-in-CbcPlain64 : goal.returns-in-CbcPlain64
returns-in-CbcPlain64 c =
    rw c.in-CbcPlain64.is (λ key is.
    equal_chains key _ _ _ _ _ _ _ c.number_block.ensures c.number_block-in-CbcPlain64.ensures
    (c.decrypt_both-in-CbcPlain64.ensures key is))
