use Rattle.std.proofs.Common.{rules, tests, ◌∙◌}
use Rattle.std.proofs.lemmas.Iterator.{YieldsList-from_slice}
use Rattle.std.proofs.lemmas.Iterator.Search.{all_from_yields_List}
use Rattle.std.specs.Prelude.{is_some}
use Rattle.serde_json.specs.Find.{as_str}
use Rattle.luks2_json.proofs.NumberedLemmas.{list_all-items}
use Rattle.luks2_json.proofs.list.all_strings.Goals as goal
use Rattle.serde_json.specs.View.{view}

pub returns : goal.returns
returns c =
    all_from_yields_List (λ value. is_some (as_str (view value))) _ _ _ c.all.ensures.ran
    (YieldsList-from_slice c.args.values.now cc) (λ x b q k. search (rules, tests))
    ∙ list_all-items (λ it. is_some (as_str it)) c.args.values.now
