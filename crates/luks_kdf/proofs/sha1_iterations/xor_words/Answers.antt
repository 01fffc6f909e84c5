use Rattle.luks_kdf.specs.Chains.{xor_words}
use Rattle.luks_kdf.proofs.LaneLemmas.{word_of_lane}
use Rattle.luks_kdf.proofs.sha1_iterations.xor_words.Goals as goal

pub returns : goal.returns
unfolding xor_words
returns g c = λ j in_lane.
    rw (
      c.five.ensures,
      c.xor.ensures j in_lane,
      c.xor-2.ensures j in_lane,
      c.xor-3.ensures j in_lane,
      c.xor-4.ensures j in_lane,
      c.xor-5.ensures j in_lane,
    ) (simp word_of_lane)
