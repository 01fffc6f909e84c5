use Rattle.std.proofs.Common.{◌∙◌, sym, ap, length, min}
use Rattle.std.specs.List.{find}
use Rattle.std.proofs.lemmas.List.{drop_min, take_rest}
use Rattle.luks_format.specs.Choice2.{is_valid}
use Rattle.luks_format.specs.Search2.{offsets}
use Rattle.luks_format.proofs.Search2Lemmas.{first_left}
use Rattle.luks_format.proofs.header2_search.first_valid.Goals as goal

pub returns-in-Found : goal.returns-in-Found
returns-in-Found c = sym (rw c.in-Found.is at c.requires).first

pub returns-in-Passed : goal.returns-in-Passed
returns-in-Passed c =
    c.valid_among.ensures
    ∙ ap (find (is_valid c.args.bytes.now)) (rw (c.min.ensures, c.offsets-offsets.ensures)
    (take_rest offsets (min c.in-Passed.count (length offsets)) ∙ drop_min c.in-Passed.count offsets))
    ∙ first_left c.args.bytes.now c.in-Passed.count (rw c.in-Passed.is at c.requires)
