use Rattle.std.proofs.Common.{rules, ◌∙◌}
use Rattle.luks_request.proofs.NumberLemmas.{parse-number}
use Rattle.luks_request.proofs.number.number.Goals as goal

pub returns-then-is_number : goal.returns-then-is_number
returns-then-is_number c = c.ok.ensures.value
    ∙ search (rules, parse-number c.args.text.now c.parse.result c.parse.ensures.value.0 (search rules))
