-- The message for each fault of the layers below.
use Rattle.std.specs.Prelude.{Result, Ok, Err}
use Rattle.luks_format.specs.declared.fault.HeaderFault.{HeaderFault}
use Rattle.luks_format.specs.declared.fault.HeaderFault.TheVariants.{NotLuks, Cut, Json, Read as HeaderRead}
use Rattle.luks_format.specs.declared.fault.HeaderFault.TheVariants.{Memory as HeaderMemory}
use Rattle.luks_open.specs.declared.fault.OpenFault.{OpenFault}
use Rattle.luks_open.specs.declared.fault.OpenFault.TheVariants.{NoSuchSlot, Disabled, NamedSkipped, NothingTried}
use Rattle.luks_open.specs.declared.fault.OpenFault.TheVariants.{NoKey, Memory}
use Rattle.luks_open.specs.declared.fault.PassphraseFault.{PassphraseFault}
use Rattle.luks_open.specs.declared.fault.PassphraseFault.TheVariants.{TooLong, Read as PassphraseRead}
use Rattle.luks_open.specs.declared.fault.PassphraseFault.TheVariants.{Memory as PassphraseMemory}
use Rattle.luks_open.specs.declared.fault.VolumeFault.{VolumeFault}
use Rattle.luks_open.specs.declared.fault.VolumeFault.TheVariants.{Header, Segment, Passphrase, KeyAreaCut, Slots}
use Rattle.luks_open.specs.declared.fault.VolumeFault.TheVariants.{Argon2Memory}
use Rattle.luks_payload.specs.declared.fault.PayloadFault.{PayloadFault}
use Rattle.luks_payload.specs.declared.fault.PayloadFault.TheVariants.{CutBeforePayload, Tail, Short, Read, Write}
use Rattle.luks_payload.specs.declared.state.Step.{Step}
use Rattle.luks_report.specs.declared.message.Message.{Message}
use Rattle.luks_report.specs.declared.message.Message.TheVariants as M

-- the message if no header was read
abbrev pub message_for_header : HeaderFault → Message
message_for_header NotLuks = M.NotLuks
message_for_header Cut = M.Cut
message_for_header Json = M.Json
message_for_header HeaderRead = M.ReadFailed
message_for_header HeaderMemory = M.OutOfMemory

-- the message if the passphrase was not read
abbrev pub message_for_passphrase : PassphraseFault → Message
message_for_passphrase TooLong = M.KeyFileLength
message_for_passphrase PassphraseRead = M.ReadFailed
message_for_passphrase PassphraseMemory = M.OutOfMemory

-- the message if no key slot was tried or none opens
abbrev pub message_for_slots : OpenFault → Message
message_for_slots (NoSuchSlot slot) = M.NoSuchSlot slot
message_for_slots (Disabled slot) = M.SlotDisabled slot
message_for_slots (NamedSkipped slot reason) = M.SlotSkipped slot reason
message_for_slots (NothingTried skipped) = M.NothingTried skipped
message_for_slots (NoKey skipped) = M.NoKey skipped
message_for_slots Memory = M.OutOfMemory

-- the message if a volume was not opened
abbrev pub message_for_volume : VolumeFault → Message
message_for_volume (Header fault) = message_for_header fault
message_for_volume (Segment fault) = M.SegmentRefused fault
message_for_volume (Passphrase fault) = message_for_passphrase fault
message_for_volume KeyAreaCut = M.Cut
message_for_volume (Slots fault) = message_for_slots fault
message_for_volume (Argon2Memory _ _) = M.OutOfMemory

-- the message if forwarding the payload failed, or the payload is not whole
abbrev pub message_for_payload : PayloadFault → Message
message_for_payload CutBeforePayload = M.CutBeforePayload
message_for_payload (Tail bytes) = M.Tail bytes
message_for_payload (Short bytes) = M.Short bytes
message_for_payload Read = M.ReadFailed
message_for_payload Write = M.WriteFailed

-- the message at the end of a payload
abbrev pub message_at_end : Result Step PayloadFault → Message
message_at_end (Ok _) = M.Done
message_at_end (Err fault) = message_for_payload fault
