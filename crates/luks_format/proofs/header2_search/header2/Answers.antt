use Rattle.std.proofs.Common.{◌∙◌, sym}
use Rattle.luks_format.proofs.Search2Lemmas.{none_chosen}
use Rattle.luks_format.proofs.header2_search.header2.Goals as goal

pub chosen_at-requires : goal.chosen_at-requires
chosen_at-requires c = sym c.first_valid.ensures ∙ c.in_ok-first_valid.was

pub returns-in_err-first_valid : goal.returns-in_err-first_valid
returns-in_err-first_valid c =
    c.from_residual.ensures ∙ none_chosen c.args.bytes.now (sym c.first_valid.ensures ∙ c.in_err-first_valid.was)
