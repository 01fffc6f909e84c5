use Rattle.std.proofs.Common.{rules, tests, ◌∙◌}
use Rattle.std.proofs.lemmas.Iterator.{YieldsList-from_slice}
use Rattle.std.proofs.lemmas.Iterator.Search.{any_from_yields_List}
use Rattle.luks2_json.specs.List.{is_the_string}
use Rattle.luks2_json.proofs.NumberedLemmas.{list_any-items}
use Rattle.luks2_json.proofs.list.any_string.Goals as goal
use Rattle.serde_json.specs.View.{view}

pub returns : goal.returns
returns c =
    any_from_yields_List (λ value. is_the_string c.args.text.now (view value)) _ _ _ c.any.ensures.ran
    (YieldsList-from_slice c.args.values.now cc) (λ x b q k. search (rules, tests))
    ∙ list_any-items (is_the_string c.args.text.now) c.args.values.now
