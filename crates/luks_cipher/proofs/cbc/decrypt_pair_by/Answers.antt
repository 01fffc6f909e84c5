use Rattle.std.proofs.Common.{◌≡◌, ◌++◌, List, ℕ, length, take, drop, arith, length-drop, refl, ap, ◌∙◌}
use Rattle.std.proofs.lemmas.List.{length-take, take_all}
use Rattle.luks_aes.specs.Aes.{decrypted}
use Rattle.luks_cipher.specs.Xts.{block_at, block_xor}
use Rattle.luks_cipher.specs.Cbc.{block_before, cbc_decrypted}
use Rattle.luks_cipher.proofs.UnitLemmas.{block_of_part, zero_mask}
use Rattle.luks_cipher.proofs.PairLemmas.{both_chains, both_done, first_of_both, second_of_both}
use Rattle.luks_cipher.proofs.cbc.decrypt_pair_by.Goals as goal

pub returns : goal.returns
unfolding cbc_decrypted block_xor
returns c key is =
    let pair = c.args.pair.now in
    let low = c.put_chain.new.chain in
    let high = c.put_chain-2.new.chain in
    let low_len : length low ≡ 528 = omega (arith, length-take 528 c.args.chains.now) in
    let high_len : length high ≡ 528 = omega arith in
    let front : length (take 512 low) ≡ 512 = omega (arith, length-take 512 low) in
    let chains = both_chains low high (drop 528 c.args.chains.now) 528 low_len high_len
    (omega (arith, length-drop 528 c.args.chains.now)) refl in
    both_done (λ (before block : List ℕ). block_xor (decrypted key block) before)
    (block_before c.args.iv (take 512 pair)) (block_before c.args.next_iv (drop 512 pair)) pair
    c.decrypt_batch.new.batch (take 512 low ++ high) c.requires.pair (omega arith)
    (λ n few. c.decrypt_batch.ensures key n is few
    ∙ (λ i. block_xor (decrypted key (zero_mask pair c.args.zeros.now n (omega arith) c.requires.zeros i))
    ((block_of_part _ n 1024 (omega arith) ∙ ap (λ x. block_at x n) chains) i)))
    (λ j few. first_of_both (take 512 low) high j front few ∙ block_of_part low j 512 (omega arith)
    ∙ c.put_chain.ensures j (omega (arith, length-take 512 pair)))
    (λ j few. second_of_both (take 512 low) high j front ∙ c.put_chain-2.ensures j (omega arith)
    ∙ ap (λ x. block_before c.args.next_iv x j) (take_all 512 (drop 512 pair) (omega (arith, length-drop 512 pair))))

-- the lengths of the parts that the code reads
pub slice_bounds-put_chain-end-2 : goal.slice_bounds-put_chain-end-2
slice_bounds-put_chain-end-2 c = omega (arith, length-take 512 c.args.pair.now)

pub slice_bounds-put_chain-end-4 : goal.slice_bounds-put_chain-end-4
slice_bounds-put_chain-end-4 c = omega (arith, length-take 528 c.args.chains.now)

pub put_chain-requires-clause-whole : goal.put_chain-requires-clause-whole
put_chain-requires-clause-whole c = omega (arith, length-take 512 c.args.pair.now)

pub put_chain-requires-clause-capacity : goal.put_chain-requires-clause-capacity
put_chain-requires-clause-capacity c = omega (arith, length-take 512 c.args.pair.now, length-take 528 c.args.chains.now)

pub slice_bounds-decrypt_batch-end-2 : goal.slice_bounds-decrypt_batch-end-2
slice_bounds-decrypt_batch-end-2 c = omega (arith, length-take {A = ℕ})

pub decrypt_batch-requires-clause-after : goal.decrypt_batch-requires-clause-after
decrypt_batch-requires-clause-after c = omega (arith, length-take {A = ℕ})
