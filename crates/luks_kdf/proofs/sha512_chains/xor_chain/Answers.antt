use Rattle.std.proofs.Common.{◌∙◌}
use Rattle.sha2.specs.Sha512.{compress}
use Rattle.luks_kdf.specs.Pairs.{after_digest512}
use Rattle.luks_kdf.proofs.ChainLemmas.{bytes64, chain_xor_of_words, chained512}
use Rattle.luks_kdf.proofs.sha512_chains.xor_chain.Goals as goal

pub returns : goal.returns
returns g c = λ hash is.
    let n = g.row.WORDS in
    let first = c.args.first.now in
    c.store.ensures ∙ chain_xor_of_words hash (compress first) (after_digest512 n) 8 (bytes64 n) 128
    (chained512 hash first n c.requires.words is) c.args.inner.now c.args.outer.now c.requires.inner c.requires.outer
    c.args.last.now c.args.xors.now _ _ _ _ _ c.args.count c.after_block-inside.ensures c.after_block-outside.ensures
    c.load_digest-digest.ensures c.load_digest-before.ensures c.xor_iterations-after.ensures
