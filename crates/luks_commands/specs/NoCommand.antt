-- What is reported if the arguments are no command.
use Rattle.luks_report.specs.declared.message.Message.{Message}
use Rattle.luks_report.specs.declared.message.Message.TheVariants.{OutOfMemory}
use Rattle.luks_report.specs.declared.message.Message.TheVariants.{Usage as UsageMessage}
use Rattle.luks_args.specs.declared.planning.PlanFault.{PlanFault}
use Rattle.luks_args.specs.declared.planning.PlanFault.TheVariants.{Memory, Usage}

-- the message if the arguments are not a command, or memory ran out
abbrev pub message_for_plan : PlanFault → Message
message_for_plan Usage = UsageMessage
message_for_plan Memory = OutOfMemory
