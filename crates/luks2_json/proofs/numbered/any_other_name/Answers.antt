use Rattle.std.proofs.Common.{rules, tests, ap, ◌∙◌}
use Rattle.std.specs.Prelude.{not, string_bytes}
use Rattle.std.specs.List.{list_any}
use Rattle.std.proofs.lemmas.Iterator.Search.{any_from_yields_List}
use Rattle.luks_format.specs.Rule.{max_slots}
use Rattle.luks2_json.specs.Numbered.{is_number_below}
use Rattle.luks2_json.proofs.NumberedLemmas.{keys_given, list_any-names}
use Rattle.luks2_json.proofs.numbered.any_other_name.Goals as goal

pub returns : goal.returns
returns c =
    any_from_yields_List (λ key. not (is_number_below max_slots (string_bytes key))) _ _ _ c.any.ensures.ran
    (keys_given c.keys.result) (λ x b q k. search (rules, tests))
    ∙ ap (λ keys. list_any (λ key. not (is_number_below max_slots (string_bytes key))) keys) c.keys.ensures.rest
    ∙ list_any-names (λ name. not (is_number_below max_slots name)) c.args.members.now.entries
