use Rattle.std.proofs.Common.{arith}
use Rattle.luks_kdf.proofs.LaneLemmas.{word_of_lane, word_splat_fits}
use Rattle.luks_kdf.proofs.sha256_block.round.Goals as goal

pub returns-clause-value : goal.returns-clause-value
returns-clause-value c = λ j lane twice.
    rw (
      c.twice.ensures.word j lane,
      c.add-3.ensures j lane,
      c.add-temp2.ensures j lane,
      c.maj.ensures j lane,
      c.big_sigma0.ensures j lane (twice 0),
      c.twice-2.ensures.word j lane,
      c.add-4.ensures j lane,
      c.add-temp1.ensures j lane,
      c.add-2.ensures j lane,
      c.add-chosen.ensures j lane,
      c.add.ensures j lane,
      c.ch.ensures j lane,
      c.big_sigma1.ensures j lane (twice 4),
      word_splat_fits 2 c.args.k j lane (omega arith),
    ) (simp word_of_lane)
