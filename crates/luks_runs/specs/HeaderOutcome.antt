-- The outcomes of the commands on headers.
use Rattle.std.specs.Prelude.{ℕ, List, [], Result, Ok, Err}
use Rattle.luks_header.specs.Header.{header_read_len, header_of}
use Rattle.luks_header.specs.declared.header.Header.{Header}
use Rattle.luks_format.specs.declared.fault.HeaderFault.{HeaderFault}
use Rattle.luks_format.specs.declared.fault.HeaderFault.TheVariants.{NotLuks}
use Rattle.luks_report.specs.Texts.{check_of, message_for_check}
use Rattle.luks_report.specs.Dump.{dump_of, uuid_of}
use Rattle.luks_report.specs.Faults.{message_for_header}
use Rattle.luks_report.specs.declared.message.Message.{Message}
use Rattle.luks_report.specs.declared.message.Message.TheVariants.{Done, No}
use Rattle.luks_runs.specs.Run.{Outcome, no_output}
use Rattle.luks_open.specs.Location.{HeaderReader}
use Rattle.luks_runs.specs.declared.headers.Printout.{Printout}
use Rattle.luks_runs.specs.declared.headers.Printout.TheVariants.{Uuid, Dump, Check}

-- the message of `isLuks`
abbrev pub message_for_is_luks : Result Header HeaderFault → Message
message_for_is_luks (Ok _) = Done
message_for_is_luks (Err NotLuks) = No
message_for_is_luks (Err fault) = message_for_header fault

-- the text of a printout
abbrev pub printout_text : Printout → Header → List ℕ
printout_text Uuid = uuid_of
printout_text Dump = dump_of
printout_text Check = check_of

-- the message once a text is printed
abbrev pub printout_message : Printout → Header → Message
printout_message Uuid header = Done
printout_message Dump header = Done
printout_message Check header = message_for_check header

-- what is printed about the header, if there is one
abbrev pub printed : (Header → List ℕ) → Result Header HeaderFault → List ℕ
printed text (Ok header) = text header
printed text (Err _) = []

-- the message of a command that prints a text about the header, if `message_for` gives the message for a header
abbrev pub message_printing : (Header → Message) → Result Header HeaderFault → Message
message_printing message_for (Ok header) = message_for header
message_printing message_for (Err fault) = message_for_header fault

-- `isLuks`: nothing is written
abbrev pub is_luks_outcome : List ℕ → Outcome
is_luks_outcome image = no_output (message_for_is_luks (header_of image)) (header_read_len image) 0

-- the outcome of a command that prints this text about a header read by `read`
abbrev pub print_outcome_by : HeaderReader → Printout → List ℕ → Outcome
print_outcome_by read printout image =
    record (no_output (message_printing (printout_message printout) (read image)) (header_read_len image) 0)
    { output = printed (printout_text printout) (read image) }
