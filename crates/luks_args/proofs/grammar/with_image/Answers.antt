use Rattle.luks_args.proofs.grammar.with_image.Goals as goal

pub returns : goal.returns
returns c as_read is = c.with_input.ensures _ (c.with_option-command.ensures as_read is)
