use Rattle.std.proofs.Common.{append_assoc}
use Rattle.luks_args.proofs.grammar.push_commands.Goals as goal

pub returns : goal.returns
returns c before are =
    let first = c.in_ok-push_header_command.ensures before are in
    let second = c.in_ok-push_header_command-2.ensures _ first in
    let third = c.in_ok-push_header_command-3.ensures _ second in
    let fourth = c.in_ok-push_header_command-4.ensures _ third in
    simp append_assoc at (c.push_other_commands.ensures _ fourth)
