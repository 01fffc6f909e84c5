-- The texts of luksrd: its usage, its messages as printed on standard error, with the exit status of each, and what a
-- check prints.
use Prim.Native.String.{String}
use Rattle.std.specs.Prelude.{ℕ, List, Option, Some, None, [], ◌∷◌, ◌++◌, ◌==◌, codes, flat_map, if◌then◌else◌, length}
use Rattle.std.specs.Prelude.{Result, Ok, Err}
use Rattle.std.specs.Fmt.{decimal}
pub use Rattle.luks_report.specs.Findings.{findings_of}
use Rattle.luks_header.specs.SegmentFault.{fault_text}
use Rattle.luks_header.specs.SkipReason.{asked_kib, reason_text}
use Rattle.luks_header.specs.declared.header.Header.{Header}
use Rattle.luks_format.specs.declared.fault.HeaderFault.{HeaderFault}
use Rattle.luks_format.specs.declared.fault.HeaderFault.TheVariants as H
use Rattle.luks_format.specs.declared.refusal.SkipReason.{SkipReason}
use Rattle.luks_report.specs.HeaderFault.{fault_sentence}
use Rattle.luks_report.specs.declared.message.Message.{Message}
use Rattle.luks_report.specs.declared.message.Message.TheVariants.{Done, No, Usage, NotLuks, Cut, Json, KeyLength, Tail}
use Rattle.luks_report.specs.declared.message.Message.TheVariants.{FewRandomBytes, FewStripes, OutOfMemory, ReadFailed}
use Rattle.luks_report.specs.declared.message.Message.TheVariants.{WriteFailed, SegmentRefused, NoSuchSlot, Short}
use Rattle.luks_report.specs.declared.message.Message.TheVariants.{SlotDisabled, SlotSkipped, NothingTried, Findings}
use Rattle.luks_report.specs.declared.message.Message.TheVariants.{KeyFileLength, NoKey, CutBeforePayload}

-- a line with its newline
abbrev line : String → List ℕ
line text = codes text ++ 10 ∷ []

-- what is printed if the arguments are not a luksrd command
unfoldable pub usage_text : List ℕ
usage_text =
    line "usage: luksrd isLuks [--header FILE] IMAGE"
    ++ line "       luksrd luksUUID [--header FILE] IMAGE"
    ++ line "       luksrd luksDump [--header FILE] IMAGE"
    ++ line "       luksrd luksCheck [--header FILE] IMAGE"
    ++ line "       luksrd testPassphrase --key-file FILE [--key-slot N] [--max-iterations N] [--header FILE] IMAGE"
    ++ line "       luksrd luksCat --key-file FILE [--key-slot N] [--max-iterations N] [--header FILE] IMAGE"
    ++ line "       luksrd afSplit --hash HASH --stripes N --random FILE KEY"
    ++ line "       luksrd afMerge --hash HASH --stripes N --key-bytes N STRIPES"

-- a message on a line of its own
abbrev pub message_line : List ℕ → List ℕ
message_line text = codes "luksrd: " ++ text ++ 10 ∷ []

-- a key slot that was skipped, and the reason
abbrev pub skip_text : ℕ × SkipReason → List ℕ
skip_text (number, reason) = decimal number ++ codes " (" ++ reason_text reason ++ codes ")"

-- what a key slot asks for, if that is above a limit
abbrev pub asked_text : Option ℕ → List ℕ
asked_text None = []
asked_text (Some kib) = codes ", asks for " ++ decimal kib ++ codes " KiB"

-- the first key slot that was skipped, with what it asks for if that is above a limit
abbrev pub first_skip_text : ℕ × SkipReason → List ℕ
first_skip_text (number, reason) =
    decimal number ++ codes " (" ++ reason_text reason ++ asked_text (asked_kib reason) ++ codes ")"

-- further key slots that were skipped, after the first one
abbrev pub more_skips_text : List (ℕ × SkipReason) → List ℕ
more_skips_text skips = flat_map (λ skip. codes ", " ++ skip_text skip) skips

-- the text about the skipped key slots, at the end of a line
abbrev pub skips_text : List (ℕ × SkipReason) → List ℕ
skips_text [] = []
skips_text (skip ∷ skips) = codes "; skipped: " ++ first_skip_text skip ++ more_skips_text skips

-- what `testPassphrase` prints about the key slot that opens
unfoldable pub opened_line : ℕ → List ℕ
opened_line number = codes "Key slot " ++ decimal number ++ codes " opens the volume." ++ 10 ∷ []

-- the message for an input that cannot be opened, by its name as given
unfoldable pub not_opened_line : List ℕ → List ℕ
not_opened_line name = message_line (codes "cannot open " ++ name)

-- why no header was read, on a line
abbrev pub header_fault_line : HeaderFault → List ℕ
header_fault_line fault = fault_sentence fault ++ 10 ∷ []

-- the line that is printed for a message, or nothing if it has none
abbrev pub line_of : Message → List ℕ
line_of Done = []
line_of No = []
line_of Usage = usage_text
line_of (SegmentRefused fault) = message_line (codes "segment refused: " ++ fault_text fault)
line_of (NoSuchSlot slot) = message_line (codes "key slot " ++ decimal slot ++ codes " is not there")
line_of (SlotDisabled slot) = message_line (codes "key slot " ++ decimal slot ++ codes " is disabled")
line_of (SlotSkipped slot reason) =
    message_line (codes "key slot " ++ decimal slot ++ codes " is skipped: " ++ reason_text reason
    ++ asked_text (asked_kib reason))
line_of (NothingTried skips) = message_line (codes "no key slot can be tried" ++ skips_text skips)
line_of KeyFileLength = message_line (codes "key file is longer than 8388608 bytes")
line_of (NoKey skips) = message_line (codes "no key opens the volume" ++ skips_text skips)
line_of Findings = message_line (codes "the header has findings")
line_of NotLuks = header_fault_line H.NotLuks
line_of Cut = header_fault_line H.Cut
line_of Json = header_fault_line H.Json
line_of CutBeforePayload = message_line (codes "image ends before the payload")
line_of (Tail bytes) = message_line (codes "image ends inside a sector: " ++ decimal bytes ++ codes " bytes left over")
line_of (Short bytes) = message_line (codes "image ends " ++ decimal bytes ++ codes " bytes before the segment does")
line_of KeyLength = message_line (codes "key must be 1 to 512 bytes")
line_of FewRandomBytes = message_line (codes "random bytes are too few")
line_of FewStripes = message_line (codes "stripes are too few")
line_of OutOfMemory = header_fault_line H.Memory
line_of ReadFailed = header_fault_line H.Read
line_of WriteFailed = message_line (codes "write failed")

-- the exit status for a message
abbrev pub status_of : Message → ℕ
status_of Done = 0
status_of No = 1
status_of Usage = 1
status_of (SegmentRefused _) = 1
status_of (NoSuchSlot _) = 1
status_of (SlotDisabled _) = 1
status_of (SlotSkipped _ _) = 1
status_of (NothingTried _) = 1
status_of KeyFileLength = 1
status_of Findings = 1
status_of (NoKey _) = 2
status_of OutOfMemory = 3
status_of NotLuks = 4
status_of Cut = 4
status_of Json = 4
status_of CutBeforePayload = 4
status_of (Tail _) = 4
status_of (Short _) = 4
status_of KeyLength = 4
status_of FewRandomBytes = 4
status_of FewStripes = 4
status_of ReadFailed = 6
status_of WriteFailed = 6

-- what `luksCheck` prints for a header: its findings, or that there are none
unfoldable pub check_of : Header → List ℕ
check_of header = if length (findings_of header) == 0 then codes "clean" ++ 10 ∷ [] else findings_of header

-- how `luksCheck` of a header ends
unfoldable pub message_for_check : Header → Message
message_for_check header = if length (findings_of header) == 0 then Done else Findings

-- the text about memory that Argon2 needs for a key slot and does not get
abbrev pub argon2_memory_text : ℕ → ℕ → List ℕ
argon2_memory_text slot memory =
    codes "luksrd: out of memory: Argon2 needs " ++ decimal memory ++ codes " KiB for key slot " ++ decimal slot

-- the message of a part of a run
abbrev pub result_message : {T : Type 0} → Result T Message → Message
result_message (Ok _) = Done
result_message (Err message) = message
