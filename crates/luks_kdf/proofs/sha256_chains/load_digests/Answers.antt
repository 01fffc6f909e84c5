use Rattle.std.proofs.Common.{[], ◌∷◌, arith}
use Rattle.luks_kdf.specs.LaneWords.{lane}
use Rattle.luks_kdf.proofs.LaneLemmas.{below_eight}
use Rattle.luks_kdf.proofs.WordLemmas.{words_of_digest}
use Rattle.luks_kdf.proofs.sha256_chains.load_digests.Goals as goal

pub returns-clause-words : goal.returns-clause-words
returns-clause-words c = λ j in_lane.
    words_of_digest (lane j (c.load_pair.result ∷ c.load_pair-2.result ∷ c.load_pair-3.result ∷ c.load_pair-4.result
    ∷ c.load_pair-5.result ∷ c.load_pair-6.result ∷ c.load_pair-7.result ∷ c.load_pair-8.result ∷ []))
    c.args.digests.now (λ i. (c.type_inv.digests i).fits) 8 j (omega arith)
    (below_eight _ (c.load_pair.ensures.word j in_lane) (c.load_pair-2.ensures.word j in_lane)
    (c.load_pair-3.ensures.word j in_lane) (c.load_pair-4.ensures.word j in_lane)
    (c.load_pair-5.ensures.word j in_lane) (c.load_pair-6.ensures.word j in_lane)
    (c.load_pair-7.ensures.word j in_lane) (c.load_pair-8.ensures.word j in_lane))
