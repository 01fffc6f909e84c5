use Rattle.std.proofs.Common.{rules, ◌∙◌}
use Rattle.luks2_json.proofs.EncodedLemmas.{parse-decimal}
use Rattle.luks2_json.proofs.member.number_of.Goals as goal

pub returns : goal.returns
returns c = c.ok.ensures.value
    ∙ parse-decimal c.args.text.now c.parse.result c.parse.ensures.value.0 (search rules) (search rules) (search rules)
