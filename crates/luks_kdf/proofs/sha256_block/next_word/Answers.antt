use Rattle.std.proofs.Common.{◌≡◌, ◌+◌, ◌%◌, arith}
use Rattle.luks_kdf.proofs.LaneLemmas.{word_of_lane}
use Rattle.luks_kdf.proofs.sha256_block.next_word.Goals as goal

pub returns-clause-value : goal.returns-clause-value
returns-clause-value c = λ j lane twice.
    let p = c.args.index in
    let at : p % 16 ≡ p = omega arith in
    rw (
      c.twice-next.ensures.word j lane,
      c.add-2.ensures j lane,
      c.add.ensures j lane,
      c.add-third.ensures j lane,
      c.small_sigma1.ensures j lane (twice ((p + 14) % 16)),
      c.small_sigma0.ensures j lane (twice ((p + 1) % 16)),
      at,
    ) (simp word_of_lane)
