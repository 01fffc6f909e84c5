use Rattle.luks_kdf.proofs.LaneLemmas.{word_of_lane}
use Rattle.luks_kdf.proofs.sha1_block.next_word.Goals as goal

pub returns-clause-value : goal.returns-clause-value
returns-clause-value g c = λ j in_lane.
    rw (
      c.rotated-next.ensures j in_lane,
      c.xor-2.ensures j in_lane,
      c.xor.ensures j in_lane,
      c.xor-newer.ensures j in_lane,
    ) (simp word_of_lane)
