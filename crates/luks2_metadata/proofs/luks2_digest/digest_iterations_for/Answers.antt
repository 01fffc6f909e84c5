use Rattle.std.proofs.Common.{◌≡◌, true, sym, ap, arith, ◌∙◌, option_map}
use Rattle.std.specs.Prelude.{is_some}
use Rattle.luks2_json.proofs.NumberedLemmas.{lowest_found, lowest_next, lowest_none, none_from_not_some}
use Rattle.luks2_json.specs.Numbered.{lowest}
use Rattle.luks2_metadata.proofs.SlotLemmas.{same_some}
use Rattle.luks2_metadata.specs.Digest2.{digest2_for, own_digest_at, iterations_of_digest}
use Rattle.luks2_metadata.proofs.luks2_digest.digest_iterations_for.Goals as goal
use Rattle.serde_json.specs.View.{view}

pub loop-digest-init : goal.loop-digest-init
loop-digest-init c = lowest_none _

pub returns-then-is_some : goal.returns-then-is_some
unfolding digest2_for
returns-then-is_some c =
    let f = own_digest_at (view c.args.tree.now) c.args.number in
    let here = c.own_iterations_at-found.ensures in
    let some : is_some (f c.loop-digest.digest) ≡ true = sym (same_some (f c.loop-digest.digest))
    ∙ (ap is_some (sym here) ∙ (sym c.is_some.ensures ∙ c.if-is_some.true)) in
    here ∙ ap (option_map iterations_of_digest)
    (sym (lowest_found f c.loop-digest.digest 32 c.loop-digest.invariant c.loop-digest-test.true some))

pub loop-digest-preserved : goal.loop-digest-preserved
loop-digest-preserved c =
    let f = own_digest_at (view c.args.tree.now) c.args.number in
    let here = c.own_iterations_at-found.ensures in
    lowest_next f c.loop-digest.digest c.loop-digest.invariant
    ∙ none_from_not_some _ (sym (same_some (f c.loop-digest.digest))
    ∙ (ap is_some (sym here) ∙ (sym c.is_some.ensures ∙ c.if-is_some.false)))

pub returns : goal.returns
unfolding digest2_for
returns c =
    let end : c.loop-digest.digest ≡ 32 = omega arith in
    ap (option_map iterations_of_digest)
    (sym c.loop-digest.invariant ∙ ap (lowest (own_digest_at (view c.args.tree.now) c.args.number)) end)
