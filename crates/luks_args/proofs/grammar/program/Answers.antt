use Rattle.std.proofs.Common.{ap, true}
use Rattle.clap.specs.Words.{App}
use Rattle.luks_args.proofs.grammar.program.Goals as goal

pub returns : goal.returns
returns c = record {
  app = rw (c.disable_help_subcommand.ensures, c.disable_help_flag.ensures, c.no_binary_name.ensures)
      (ap (λ (a : App). record a {
        top = record a.top
            { no_binary_name = true; disable_help_flag = true; disable_help_subcommand = true };
      }) c.new.ensures.app);
  local = rw (c.disable_help_subcommand.ensures, c.disable_help_flag.ensures, c.no_binary_name.ensures)
      c.new.ensures.local;
}
