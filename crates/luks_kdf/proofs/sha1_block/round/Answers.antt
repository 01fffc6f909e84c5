use Rattle.std.proofs.Common.{arith}
use Rattle.luks_kdf.proofs.LaneLemmas.{word_of_lane, word_splat_fits}
use Rattle.luks_kdf.proofs.sha1_block.round.Goals as goal

pub returns : goal.returns
returns g c = λ j in_lane.
    rw (
      c.five.ensures,
      c.add-3.ensures j in_lane,
      c.add-so_far.ensures j in_lane,
      c.add-2.ensures j in_lane,
      c.add.ensures j in_lane,
      c.rotated.ensures j in_lane,
      c.rotated-2.ensures j in_lane,
      word_splat_fits g.row.N c.args.k j in_lane (omega arith),
    ) (simp word_of_lane)
