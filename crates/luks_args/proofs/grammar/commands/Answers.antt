use Rattle.std.proofs.Common.{[]}
use Rattle.luks_args.specs.Grammar.{AreReadAs}
use Rattle.luks_args.proofs.grammar.commands.Goals as goal

pub returns : goal.returns
unfolding AreReadAs
returns c = c.in_ok-push_commands.ensures [] (rw c.new-commands.ensures.items tt)
