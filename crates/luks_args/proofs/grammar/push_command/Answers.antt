use Rattle.luks_args.proofs.GrammarLemmas.{read_more}
use Rattle.luks_args.proofs.grammar.push_command.Goals as goal

pub returns : goal.returns
returns c before shape are builds = rw c.in_ok-push.ensures.items
    (read_more c.args.commands.now.items before c.in_ok-command.field-0 shape are
    (rw c.in_ok-command.was at builds))
