use Rattle.clap.specs.Words.{new_app}
use Rattle.luks_args.specs.Grammar.{stripe_command}
use Rattle.luks_args.proofs.grammar.stripe_command.Goals as goal

pub returns : goal.returns
unfolding stripe_command
returns c =
    let start = new_app c.args.name.now in
    let first = c.with_option-command.ensures start (record { app = c.new.ensures.app; local = c.new.ensures.local }) in
    let second = c.with_option-command-2.ensures _ first in
    c.with_input.ensures _ (c.with_option-command-3.ensures _ second)
