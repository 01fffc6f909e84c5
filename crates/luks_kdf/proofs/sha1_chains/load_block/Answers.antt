use Rattle.std.proofs.Common.{refl}
use Rattle.luks_kdf.proofs.LaneLemmas.{below_sixteen}
use Rattle.luks_kdf.proofs.sha1_chains.load_block.Goals as goal

pub returns : goal.returns
returns g c = λ j in_lane. rw c.sixteen.ensures (record {
  long = refl;
  words = below_sixteen _
      (c.load_all.ensures j in_lane) (c.load_all-2.ensures j in_lane)
      (c.load_all-3.ensures j in_lane) (c.load_all-4.ensures j in_lane)
      (c.load_all-5.ensures j in_lane) (c.load_all-6.ensures j in_lane)
      (c.load_all-7.ensures j in_lane) (c.load_all-8.ensures j in_lane)
      (c.load_all-9.ensures j in_lane) (c.load_all-10.ensures j in_lane)
      (c.load_all-11.ensures j in_lane) (c.load_all-12.ensures j in_lane)
      (c.load_all-13.ensures j in_lane) (c.load_all-14.ensures j in_lane)
      (c.load_all-15.ensures j in_lane) (c.load_all-16.ensures j in_lane);
})
