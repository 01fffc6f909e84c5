use Rattle.std.proofs.Common.{◌/◌, length, arith, ap, ◌∙◌}
use Rattle.luks_cipher.specs.Xts.{block_at, block_decrypted, tweak_after}
use Rattle.luks_cipher.proofs.UnitLemmas.{from_blocks}
use Rattle.luks_cipher.proofs.xts.decrypt_batch.Goals as goal

pub returns-clause-value : goal.returns-clause-value
returns-clause-value c key is =
    let old = c.args.batch.now in
    from_blocks _ (λ n. block_decrypted key (tweak_after c.args.tweak n) (block_at old n)) (length old / 16)
    (omega arith)
    (λ n low. c.decrypt_under.ensures key n is (omega arith)
    ∙ ap (λ t. block_decrypted key t (block_at old n)) (c.put_tweaks-next.ensures.value n (omega arith)))
