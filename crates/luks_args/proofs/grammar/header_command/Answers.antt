use Rattle.clap.specs.Words.{new_app}
use Rattle.luks_args.specs.Grammar.{header_command}
use Rattle.luks_args.proofs.grammar.header_command.Goals as goal

pub returns : goal.returns
unfolding header_command
returns c = c.with_image.ensures (new_app c.args.name.now)
    (record { app = c.new.ensures.app; local = c.new.ensures.local })
