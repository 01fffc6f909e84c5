use Rattle.std.proofs.Common.{◌≡◌, ◌+◌, ◌*◌, arith}
use Rattle.std.specs.Prelude.{slice_index}
use Rattle.sha2.specs.Sha512.{window_word}
use Rattle.luks_kdf.specs.Pairs.{words}
use Rattle.luks_kdf.proofs.LaneLemmas.{below_two}
use Rattle.luks_kdf.proofs.PairLemmas.{next_first, next_second}
use Rattle.luks_kdf.proofs.sha512_block.next_pair.Goals as goal

pub returns-clause-words : goal.returns-clause-words
returns-clause-words c =
    let w = c.args.w.now in
    let i = c.args.index in
    below_two (λ j. slice_index c.add-next.result j ≡ window_word (words w) (2 * i + j))
    (rw (
      c.add-next.ensures 0 (omega arith),
      c.add.ensures 0 (omega arith),
      c.add-third.ensures 0 (omega arith),
      c.small_sigma1.ensures 0 (omega arith),
      c.small_sigma0.ensures 0 (omega arith),
      c.across-seventh.ensures.first,
      c.across-fifteenth.ensures.first,
    ) (next_first w i c.requires))
    (rw (
      c.add-next.ensures 1 (omega arith),
      c.add.ensures 1 (omega arith),
      c.add-third.ensures 1 (omega arith),
      c.small_sigma1.ensures 1 (omega arith),
      c.small_sigma0.ensures 1 (omega arith),
      c.across-seventh.ensures.second,
      c.across-fifteenth.ensures.second,
    ) (next_second w i c.requires))
