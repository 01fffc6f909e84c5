use Rattle.std.proofs.Common.{arith, ◌∙◌}
use Rattle.luks_cipher.specs.Xts.{block_decrypted, tweak_of, xts_decrypted}
use Rattle.luks_cipher.proofs.PairLemmas.{both_done, first_of_both, second_of_both, unit_tweaks}
use Rattle.luks_cipher.proofs.xts.decrypt_both.Goals as goal

pub returns : goal.returns
unfolding xts_decrypted
returns c key m n is first second =
    let low = c.put_tweaks.new.tweaks in
    let high = c.put_tweaks-2.new.tweaks in
    both_done (block_decrypted key) (tweak_of key m) (tweak_of key n) c.args.units.now
    c.decrypt_under.new.batch _ (omega arith) (omega arith) (λ j few. c.decrypt_under.ensures key j is few)
    (λ j few. first_of_both low high j (omega arith) few
    ∙ unit_tweaks key _ low m first (λ n small. c.put_tweaks.ensures.value n (omega arith)) j few)
    (λ j few. second_of_both low high j (omega arith)
    ∙ unit_tweaks key _ high n second (λ n small. c.put_tweaks-2.ensures.value n (omega arith)) j few)
