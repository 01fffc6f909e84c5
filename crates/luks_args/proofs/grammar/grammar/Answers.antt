use Rattle.std.proofs.lemmas.Result.{IfOk-weaker}
use Rattle.luks_args.specs.Grammar.{alone, luksrd, luksrd_shapes, program}
use Rattle.luks_args.proofs.GrammarLemmas.{added_shapes}
use Rattle.luks_args.proofs.grammar.grammar.Goals as goal

pub returns : goal.returns
unfolding luksrd
returns c = IfOk-weaker c.subcommands.result _ _ (λ made adds.
    added_shapes _ made _ (alone program) luksrd_shapes c.program.ensures.app adds c.in_ok-commands.ensures)
    c.subcommands.ensures
