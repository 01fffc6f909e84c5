use Rattle.std.proofs.Common.{append_assoc, codes}
use Rattle.luks_args.specs.Grammar.{stripe_command, volume_command}
use Rattle.luks_args.proofs.grammar.push_other_commands.Goals as goal

pub returns : goal.returns
returns c before are =
    let first = c.in_ok-push_command.ensures before (volume_command (codes "testPassphrase")) are
    c.volume_command.ensures in
    let second = c.in_ok-push_command-2.ensures _ (volume_command (codes "luksCat")) first c.volume_command-2.ensures in
    let third = c.in_ok-push_command-3.ensures _ (stripe_command (codes "afSplit") (codes "random")) second
    c.stripe_command.ensures in
    simp append_assoc at (c.push_command-4.ensures _ (stripe_command (codes "afMerge") (codes "key-bytes")) third
    c.stripe_command-2.ensures)
