-- The messages that the parts of runs may end with, whatever their devices do.
use Rattle.luks_runs.specs.declared.headers.Printout.{Printout}
use Rattle.luks_runs.specs.declared.headers.Printout.TheVariants.{Uuid, Dump, Check}
use Rattle.luks_report.specs.declared.message.Message.{Message}
use Rattle.luks_report.specs.declared.message.Message.TheVariants.{Done, No, Findings, NotLuks, Cut, Json, OutOfMemory}
use Rattle.luks_report.specs.declared.message.Message.TheVariants.{ReadFailed, WriteFailed, CutBeforePayload, Tail}
use Rattle.luks_report.specs.declared.message.Message.TheVariants.{Short, KeyLength, FewRandomBytes, FewStripes}

-- the messages of `isLuks`
abbrev pub IsLuksMessage : Message → Type 0
IsLuksMessage Done = Unit {0}
IsLuksMessage No = Unit {0}
IsLuksMessage Cut = Unit {0}
IsLuksMessage Json = Unit {0}
IsLuksMessage OutOfMemory = Unit {0}
IsLuksMessage ReadFailed = Unit {0}
IsLuksMessage _ = ⊥

-- the messages of a command that prints a text about the header
abbrev pub PrintMessage : Message → Type 0
PrintMessage No = ⊥
PrintMessage NotLuks = Unit {0}
PrintMessage WriteFailed = Unit {0}
PrintMessage message = IsLuksMessage message

-- the messages of a check, which may have findings
abbrev pub CheckMessage : Message → Type 0
CheckMessage Findings = Unit {0}
CheckMessage message = PrintMessage message

-- the messages of printing this text
abbrev pub PrintoutMessage : Printout → Message → Type 0
PrintoutMessage Uuid = PrintMessage
PrintoutMessage Dump = PrintMessage
PrintoutMessage Check = CheckMessage

-- the messages of forwarding a payload
abbrev pub PayloadMessage : Message → Type 0
PayloadMessage Done = Unit {0}
PayloadMessage CutBeforePayload = Unit {0}
PayloadMessage (Tail _) = Unit {0}
PayloadMessage (Short _) = Unit {0}
PayloadMessage ReadFailed = Unit {0}
PayloadMessage WriteFailed = Unit {0}
PayloadMessage _ = ⊥

-- the messages of `afSplit`
abbrev pub SplitMessage : Message → Type 0
SplitMessage Done = Unit {0}
SplitMessage KeyLength = Unit {0}
SplitMessage FewRandomBytes = Unit {0}
SplitMessage ReadFailed = Unit {0}
SplitMessage WriteFailed = Unit {0}
SplitMessage _ = ⊥

-- the messages of `afMerge`
abbrev pub MergeMessage : Message → Type 0
MergeMessage Done = Unit {0}
MergeMessage FewStripes = Unit {0}
MergeMessage ReadFailed = Unit {0}
MergeMessage WriteFailed = Unit {0}
MergeMessage _ = ⊥
