use Rattle.std.proofs.Common.{◌≡◌, ◌∙◌, ap, ap₂, arith, add-one}
use Rattle.luks_kdf.specs.Chains.{iterations_xor, iterations, xor_words}
use Rattle.luks_kdf.specs.Pairs.{after_digest512}
use Rattle.luks_kdf.proofs.sha512_iterations.xor_iterations.Goals as goal

pub iterations-preserved : goal.iterations-preserved
unfolding iterations_xor iterations
iterations-preserved g c =
    let after = after_digest512 g.row.WORDS in
    let so_far = c.iterations.invariant in
    let is_next = c.after_digest-next.ensures
    ∙ ap (after _) (c.after_digest-middle.ensures ∙ ap (after _) so_far.0) in
    rw add-one (is_next, c.xor_words-more.ensures ∙ ap₂ (xor_words 8) so_far.1 is_next)

pub returns : goal.returns
returns g c =
    let all : c.iterations.counter ≡ c.args.count = omega arith in
    c.iterations.invariant.1 ∙ ap (iterations_xor 8 (after_digest512 g.row.WORDS) _ _ _ _) all
