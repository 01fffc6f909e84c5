use Rattle.std.proofs.Common.{◌≡◌, ◌+◌, ◌-◌, ◌*◌, ◌/◌, length, take, drop, arith, ap, ◌∙◌}
use Rattle.luks_aes.specs.Aes.{decrypted}
use Rattle.luks_cipher.specs.Xts.{block_at, block_xor}
use Rattle.luks_cipher.specs.Cbc.{block_before, cbc_decrypted}
use Rattle.luks_cipher.proofs.UnitLemmas.{from_blocks, zero_mask, block_of_part}
use Rattle.luks_cipher.proofs.cbc.decrypt_by.Goals as goal

pub returns-clause-value : goal.returns-clause-value
unfolding cbc_decrypted block_xor
returns-clause-value c key is =
    let old = c.args.batch.now in
    let chain = c.put_chain.new.chain in
    from_blocks _ (λ n. block_xor (decrypted key (block_at old n)) (block_before c.args.before old n))
    (length old / 16) (omega arith)
    (λ n low. c.decrypt_batch.ensures key n is (omega arith)
    ∙ (λ i. block_xor (decrypted key (zero_mask old c.args.zeros.now n (omega arith) c.requires.zeros i))
    (block_of_part chain n (length old) (omega arith) i))
    ∙ ap (block_xor (decrypted key (block_at old n))) (c.put_chain.ensures n (omega arith)))

pub returns-clause-next : goal.returns-clause-next
returns-clause-next c =
    let len = length c.args.batch.now in
    let size : len + 16 - len ≡ 16 = omega arith in
    let index : len ≡ 16 * (len / 16) = omega arith in
    c.block_of.ensures
    ∙ (λ i. take (size i) (drop (index i) c.put_chain.new.chain))
    ∙ c.put_chain.ensures (len / 16) (omega arith)
