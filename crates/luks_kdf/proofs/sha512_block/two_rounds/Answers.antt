use Rattle.std.proofs.Common.{◌≡◌, ◌+◌, ◌∙◌, ap, arith}
use Rattle.std.specs.Prelude.{slice_index}
use Rattle.sha2.specs.Sha512.{add64, round_constants}
use Rattle.luks_kdf.proofs.PairLemmas.{two_more_rounds}
use Rattle.luks_kdf.proofs.sha512_block.two_rounds.Goals as goal

pub returns : goal.returns
returns c = λ h w so_far words.
    let t = c.args.t in
    let k = slice_index round_constants in
    let none : t + 0 ≡ t = omega arith in
    let first = c.lane_word.ensures ∙ (c.add-addends.ensures 0 (omega arith)
    ∙ ap (λ x. add64 x (k t)) (words 0 (omega arith) ∙ ap (slice_index w) none)) in
    let second = c.lane_word-2.ensures ∙ (c.add-addends.ensures 1 (omega arith)
    ∙ ap (λ x. add64 x (k (t + 1))) (words 1 (omega arith))) in
    two_more_rounds h w c.args.v c.round.result c.round-2.result t so_far
    (c.round.ensures (k t) (slice_index w t) first) (c.round-2.ensures (k (t + 1)) (slice_index w (t + 1)) second)
