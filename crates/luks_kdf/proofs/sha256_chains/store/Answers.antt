use Rattle.std.proofs.lemmas.Grind.{common_steps}
use Rattle.std.proofs.Common.{◌≡◌, ◌∙◌, sym, arith}
use Rattle.std.proofs.lemmas.List.{take_all}
use Rattle.sha2.proofs.Absorbing256.{digest_more}
use Rattle.luks_kdf.proofs.LaneLemmas.{word_of_lane}
use Rattle.luks_kdf.proofs.sha256_chains.store.Goals as goal

pub words-preserved : goal.words-preserved
words-preserved c = grind (arith, common_steps, digest_more, word_of_lane)

pub returns : goal.returns
returns c =
    let done : c.words.i ≡ 8 = omega arith in
    sym (take_all 32 c.words.out (omega arith)) ∙ rw done at c.words.invariant
