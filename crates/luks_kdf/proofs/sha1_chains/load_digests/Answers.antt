use Rattle.std.proofs.Common.{[], ◌∷◌, arith}
use Rattle.luks_kdf.specs.LaneWords.{lane}
use Rattle.luks_kdf.proofs.LaneLemmas.{below_five}
use Rattle.luks_kdf.proofs.WordLemmas.{words_of_digest}
use Rattle.luks_kdf.proofs.sha1_chains.load_digests.Goals as goal

pub returns : goal.returns
returns g c = λ j in_lane.
    let words = lane j (c.load_each.result ∷ c.load_each-2.result ∷ c.load_each-3.result
    ∷ c.load_each-4.result ∷ c.load_each-5.result ∷ []) in
    rw c.five.ensures (words_of_digest words c.args.digests.now (λ i. (c.type_inv.digests i).fits) 5 j (omega arith)
    (below_five _ (c.load_each.ensures j in_lane) (c.load_each-2.ensures j in_lane) (c.load_each-3.ensures j in_lane)
    (c.load_each-4.ensures j in_lane) (c.load_each-5.ensures j in_lane)))
