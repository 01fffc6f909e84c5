use Rattle.std.proofs.Common.{◌≡◌, ◌∙◌, ap, ap₂, arith, add-one}
use Rattle.luks_kdf.specs.Chains.{iterations_xor, iterations, xor_words}
use Rattle.sha1.specs.Sha1.{compress}
use Rattle.luks_kdf.specs.LaneWords.{after_digest}
use Rattle.luks_kdf.proofs.sha1_iterations.xor_iterations.Goals as goal

pub iterations-preserved : goal.iterations-preserved
unfolding iterations_xor iterations
iterations-preserved g c = λ j in_lane.
    let so_far = c.iterations.invariant j in_lane in
    let middle = c.after_digest-middle.ensures j in_lane in
    let is_next = c.after_digest-next.ensures j in_lane
    ∙ ap (after_digest compress 5 _) (middle ∙ ap (after_digest compress 5 _) so_far.0) in
    rw add-one (is_next, c.xor_words-more.ensures j in_lane ∙ ap₂ (xor_words 5) so_far.1 is_next)

pub returns : goal.returns
returns g c = λ j in_lane.
    let all : c.iterations.counter ≡ c.args.count = omega arith in
    (c.iterations.invariant j in_lane).1 ∙ ap (iterations_xor 5 (after_digest compress 5) _ _ _ _) all
