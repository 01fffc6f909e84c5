use Rattle.std.proofs.Common.{◌≡◌, ◌∙◌, ap, ap₂, arith, add-one}
use Rattle.luks_kdf.specs.Chains.{iterations_xor, iterations, xor_words}
use Rattle.sha2.specs.Sha256.{compress}
use Rattle.luks_kdf.specs.LaneWords.{after_digest}
use Rattle.luks_kdf.proofs.sha256_iterations.xor_iterations.Goals as goal

pub iterations-preserved : goal.iterations-preserved
unfolding iterations_xor iterations
iterations-preserved c = λ j in_lane inner outer last.
    let so_far = c.iterations.invariant j in_lane inner outer last in
    let middle = c.after_digest-middle.ensures j in_lane inner so_far.0 in
    let next = c.after_digest-next.ensures j in_lane outer middle.0 in
    let is_next = next.1 ∙ ap (after_digest compress 8 _) (middle.1 ∙ ap (after_digest compress 8 _) so_far.1) in
    rw add-one (next.0, is_next, c.xor_words-more.ensures j in_lane ∙ ap₂ (xor_words 8) so_far.2 is_next)

pub returns : goal.returns
returns c = λ j in_lane inner outer last.
    let all : c.iterations.counter ≡ c.args.count = omega arith in
    (c.iterations.invariant j in_lane inner outer last).2 ∙ ap (iterations_xor 8 (after_digest compress 8) _ _ _ _) all
