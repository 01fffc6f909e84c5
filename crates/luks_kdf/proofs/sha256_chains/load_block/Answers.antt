use Rattle.std.proofs.Common.{[], ◌∷◌, refl}
use Rattle.luks_kdf.proofs.LaneLemmas.{all_twice, below_sixteen}
use Rattle.luks_kdf.proofs.sha256_chains.load_block.Goals as goal

pub returns : goal.returns
returns c = record {
  twice = λ j in_lane.
      all_twice j (c.load_both.result ∷ c.load_both-2.result ∷ c.load_both-3.result ∷ c.load_both-4.result
      ∷ c.load_both-5.result ∷ c.load_both-6.result ∷ c.load_both-7.result ∷ c.load_both-8.result
      ∷ c.load_both-9.result ∷ c.load_both-10.result ∷ c.load_both-11.result ∷ c.load_both-12.result
      ∷ c.load_both-13.result ∷ c.load_both-14.result ∷ c.load_both-15.result ∷ c.load_both-16.result ∷ [])
      (below_sixteen _ (c.load_both.ensures.twice j in_lane) (c.load_both-2.ensures.twice j in_lane)
      (c.load_both-3.ensures.twice j in_lane) (c.load_both-4.ensures.twice j in_lane)
      (c.load_both-5.ensures.twice j in_lane) (c.load_both-6.ensures.twice j in_lane)
      (c.load_both-7.ensures.twice j in_lane) (c.load_both-8.ensures.twice j in_lane)
      (c.load_both-9.ensures.twice j in_lane) (c.load_both-10.ensures.twice j in_lane)
      (c.load_both-11.ensures.twice j in_lane) (c.load_both-12.ensures.twice j in_lane)
      (c.load_both-13.ensures.twice j in_lane) (c.load_both-14.ensures.twice j in_lane)
      (c.load_both-15.ensures.twice j in_lane) (c.load_both-16.ensures.twice j in_lane));
  block = λ j in_lane. record {
    long = refl;
    words = below_sixteen _
        (c.load_both.ensures.word j in_lane) (c.load_both-2.ensures.word j in_lane)
        (c.load_both-3.ensures.word j in_lane) (c.load_both-4.ensures.word j in_lane)
        (c.load_both-5.ensures.word j in_lane) (c.load_both-6.ensures.word j in_lane)
        (c.load_both-7.ensures.word j in_lane) (c.load_both-8.ensures.word j in_lane)
        (c.load_both-9.ensures.word j in_lane) (c.load_both-10.ensures.word j in_lane)
        (c.load_both-11.ensures.word j in_lane) (c.load_both-12.ensures.word j in_lane)
        (c.load_both-13.ensures.word j in_lane) (c.load_both-14.ensures.word j in_lane)
        (c.load_both-15.ensures.word j in_lane) (c.load_both-16.ensures.word j in_lane);
  };
}
