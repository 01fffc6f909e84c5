use Rattle.std.proofs.Common.{◌∙◌}
use Rattle.clap.proofs.WalkLemmas.{first_value-rows}
use Rattle.clap.specs.Words.{found_of}
use Rattle.luks_args.specs.Command.{text_in}
use Rattle.luks_args.proofs.options.text.Goals as goal

pub returns : goal.returns
unfolding text_in
returns c = c.get_str.ensures ∙ first_value-rows (found_of c.args.options.now) c.args.name.now
