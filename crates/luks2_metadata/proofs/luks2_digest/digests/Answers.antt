use Rattle.std.proofs.lemmas.Grind.{common_steps}
use Rattle.std.proofs.Common.{◌≡◌, ◌∙◌, sym, ap, arith}
use Rattle.luks_format.proofs.TableLemmas.{length-ascending, ascending_more, ascending_none}
use Rattle.luks2_metadata.specs.Digest2.{digest2_numbered, digests2_of}
use Rattle.luks2_metadata.proofs.luks2_digest.digests.Goals as goal

pub loop-number-init : goal.loop-number-init
loop-number-init c = c.new-digests.ensures.items ∙ sym (ascending_none (digest2_numbered c.args.metadata.now))

pub loop-number-preserved : goal.loop-number-preserved
loop-number-preserved c =
    let f = digest2_numbered c.args.metadata.now in
    let n = c.loop-number.number in
    let here : c.in_ok-digest.digest ≡ f n =
    c.in_ok-digest.ensures ∙ ap (λ tree. digest2_numbered tree n) c.tree.ensures in
    grind (arith, common_steps, ascending_more, c.in_ok-push_digest.ensures, c.loop-number.invariant)

pub returns-clause-value : goal.returns-clause-value
unfolding digests2_of
returns-clause-value c = grind (arith, common_steps, c.loop-number.invariant)

pub returns-clause-few : goal.returns-clause-few
returns-clause-few c =
    let end : c.loop-number.number ≡ 32 = omega arith in
    grind (arith, common_steps, length-ascending, c.loop-number.invariant)
