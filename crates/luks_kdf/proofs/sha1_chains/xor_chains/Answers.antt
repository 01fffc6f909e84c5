use Rattle.std.proofs.Common.{◌∙◌}
use Rattle.sha1.specs.Sha1.{compress, initial_hash, sha1}
use Rattle.luks_kdf.specs.Chains.{digest_at}
use Rattle.luks_kdf.specs.LaneWords.{after_digest}
use Rattle.luks_kdf.proofs.ChainLemmas.{bytes32, chained1, chain_xor_of_words}
use Rattle.luks_kdf.proofs.sha1_chains.xor_chains.Goals as goal

pub returns : goal.returns
returns g c = λ j in_lane.
    c.store.ensures j in_lane
    ∙ chain_xor_of_words sha1 (compress initial_hash) (after_digest compress 5) 5 (bytes32 5) 64 chained1
    c.args.inner.now c.args.outer.now c.requires.inner c.requires.outer (digest_at 20 j c.args.last.now)
    (digest_at 20 j c.args.xors.now) _ _ _ _ _ c.args.count
    (c.after_block-inside.ensures j in_lane) (c.after_block-outside.ensures j in_lane)
    (c.load_digests-digests.ensures j in_lane) (c.load_digests-before.ensures j in_lane)
    (c.xor_iterations-after.ensures j in_lane)
