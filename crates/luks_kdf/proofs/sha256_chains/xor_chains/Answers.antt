use Rattle.std.proofs.Common.{◌∙◌}
use Rattle.sha2.specs.Sha256.{compress, digest_bytes, initial_hash_256, sha256}
use Rattle.luks_kdf.specs.Chains.{digest_at}
use Rattle.luks_kdf.specs.LaneWords.{after_digest, lane}
use Rattle.luks_kdf.proofs.ChainLemmas.{bytes32, chained256, chain_xor_of_words}
use Rattle.luks_kdf.proofs.WordLemmas.{length-digest_bytes, two_digests}
use Rattle.luks_kdf.proofs.sha256_chains.xor_chains.Goals as goal

pub returns : goal.returns
returns c = λ j in_lane.
    let inside = c.after_block-inside.ensures in
    let outside = c.after_block-outside.ensures in
    let digests = c.load_digests-digests.ensures in
    two_digests (λ k. digest_bytes (lane k c.xor_iterations-after.result) 8) c.store.new.out c.store-2.new.out 32
    (length-digest_bytes _ 8) (length-digest_bytes _ 8) c.store.ensures c.store-2.ensures j in_lane
    ∙ chain_xor_of_words sha256 (compress initial_hash_256) (after_digest compress 8) 8 (bytes32 8) 64 chained256
    c.args.inner.now c.args.outer.now c.requires.inner c.requires.outer (digest_at 32 j c.args.last.now)
    (digest_at 32 j c.args.xors.now) _ _ _ _ _ c.args.count (inside.value j in_lane) (outside.value j in_lane)
    (digests.words j in_lane) (c.load_digests-before.ensures.words j in_lane)
    (c.xor_iterations-after.ensures j in_lane (inside.twice j in_lane) (outside.twice j in_lane)
    (digests.twice j in_lane))
