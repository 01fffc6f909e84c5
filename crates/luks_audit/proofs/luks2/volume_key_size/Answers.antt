use Rattle.std.proofs.Common.{◌≡◌, ◌∙◌, true, sym, ap, arith}
use Rattle.std.specs.Prelude.{is_some}
use Rattle.luks2_json.proofs.NumberedLemmas.{lowest_found, lowest_next, lowest_none, none_from_not_some}
use Rattle.luks2_json.specs.Numbered.{lowest}
use Rattle.luks_audit.specs.Rows2.{key_size_at, volume_key_size}
use Rattle.luks_audit.proofs.luks2.volume_key_size.Goals as goal
use Rattle.serde_json.specs.View.{view}

pub loop-number-init : goal.loop-number-init
loop-number-init c = lowest_none _

pub returns-then-is_some : goal.returns-then-is_some
unfolding volume_key_size
returns-then-is_some c =
    let f = key_size_at (view c.args.tree.now) in
    let here = c.key_size_at-found.ensures in
    let some : is_some (f c.loop-number.number) ≡ true =
    ap is_some (sym here) ∙ (sym c.is_some.ensures ∙ c.if-is_some.true) in
    here ∙ sym (lowest_found f c.loop-number.number 32 c.loop-number.invariant c.loop-number-test.true some)

pub loop-number-preserved : goal.loop-number-preserved
loop-number-preserved c =
    let f = key_size_at (view c.args.tree.now) in
    let here = c.key_size_at-found.ensures in
    lowest_next f c.loop-number.number c.loop-number.invariant
    ∙ none_from_not_some _ (ap is_some (sym here) ∙ (sym c.is_some.ensures ∙ c.if-is_some.false))

pub returns : goal.returns
unfolding volume_key_size
returns c =
    let end : c.loop-number.number ≡ 32 = omega arith in
    sym c.loop-number.invariant ∙ ap (lowest (key_size_at (view c.args.tree.now))) end
