-- A pump as its callers see it, and the effects of its calls and of their parts.
use Rattle.std.specs.Prelude.{◌≡◌, ℕ, ◌+◌, ◌-◌, ◌*◌, ◌/◌, ◌^◌, ◌<◌, ◌≤◌, ◌⊎◌, ◌++◌, max, min, nat_lt, Bool, true, false}
use Rattle.std.specs.Prelude.{IsTrue, List, drop, length, take, Option, None, Some, Result, Ok, Err, MatchResult}
use Rattle.luks_cipher.specs.Sector.{Cipher}
use Rattle.luks_io.specs.Devices.{Appended, ConsumedBetween, ConsumedExactly, ConsumedFewer, IfKnown}
use Rattle.luks_format.specs.declared.segment.Segment.{Segment}
use Rattle.luks_payload.specs.Plain.{ending_of, ending_of_len, payload_end_of, sector_len, sector_plaintext}
use Rattle.luks_payload.specs.Plain.{sector_start, sectors_of, unit_plain}
use Rattle.luks_payload.specs.declared.fault.PayloadFault.{PayloadFault}
use Rattle.luks_payload.specs.declared.fault.PayloadFault.TheVariants.{CutBeforePayload, Tail, Short, Read, Write}
use Rattle.luks_payload.specs.declared.state.State.{State}
use Rattle.luks_payload.specs.declared.state.State.TheVariants.{BeforePayload, InPayload, Ended, Faulted}
use Rattle.luks_payload.specs.declared.state.Step.{Step}
use Rattle.luks_payload.specs.declared.state.Step.TheVariants.{Sector, End}

-- whether a read failed in a call with this answer
abbrev pub is_pump_read_failure : {T : Type 0} → Result T PayloadFault → Bool
is_pump_read_failure (Err Read) = true
is_pump_read_failure _ = false

-- whether a write failed in such a call
abbrev pub is_pump_write_failure : {T : Type 0} → Result T PayloadFault → Bool
is_pump_write_failure (Err Write) = true
is_pump_write_failure _ = false

-- whether such a call hit EOF on the image before the payload
abbrev pub is_cut_before_payload : {T : Type 0} → Result T PayloadFault → Bool
is_cut_before_payload (Err CutBeforePayload) = true
is_cut_before_payload _ = false

-- discarding the next `count` bytes of a source was aborted: the source has fewer, or a read failed
abbrev pub AbortsDiscarding : ℕ → List ℕ → Option (List ℕ) → PayloadFault → Type 0
AbortsDiscarding count known left CutBeforePayload = (length known < count) × ConsumedExactly known left (length known)
AbortsDiscarding count known left Read = ConsumedFewer known left count
AbortsDiscarding count known left _ = ⊥

-- the bytes of an image at this offset are `prefix`, and those after them remain in the source
pub record PositionedAt (image prefix : List ℕ) (offset : ℕ) (left' : Option (List ℕ)) : Type 0 where
  pub next : prefix ≡ take (length prefix) (drop offset image)
  pub consumption : ConsumedExactly image left' (offset + length prefix)

-- a data unit starts with the bytes of `prefix`, as far as both have bytes
abbrev pub BeginsWith : List ℕ → List ℕ → Type 0
BeginsWith prefix unit = take (length prefix) unit ≡ take (length unit) prefix

-- the plaintext of some data unit of `len` bytes was written, and the unit starts with the bytes of `prefix`
abbrev pub AppendsUnit : Cipher → ℕ → ℕ → List ℕ → Option (List ℕ) → Option (List ℕ) → Type 0
AppendsUnit cipher number len prefix before after = (unit : List ℕ) × (length unit ≡ len) × BeginsWith prefix unit
    × Appended before after (unit_plain cipher number unit)

-- a sector was filled with `got` bytes: those of `prefix`, and then the next ones of the source
pub record FilledSector (len : ℕ) (prefix known : List ℕ) (left' : Option (List ℕ)) (sector : List ℕ) (got : ℕ)
    : Type 0 where
  pub all : got ≡ min len (length (prefix ++ known))
  pub bytes : take got sector ≡ take got (prefix ++ known)
  pub consumption : ConsumedExactly known left' (got - length prefix)

-- forwarding a sector of `len` bytes was aborted
abbrev pub AbortsInSector : Cipher → ℕ → ℕ → List ℕ → List ℕ → Option (List ℕ) → Option (List ℕ) → Option (List ℕ)
    → PayloadFault → Type 0
AbortsInSector cipher number len prefix known left' before after Read = ConsumedFewer known left' (len - length prefix)
AbortsInSector cipher number len prefix known left' before after Write =
    ConsumedExactly known left' (len - length prefix) × ((count : ℕ) × (count < len)
    × Appended before after (take count (unit_plain cipher number (take len (prefix ++ known)))))
AbortsInSector cipher number len prefix known left' before after _ = ⊥

-- the sector with this data unit number, which starts with the bytes of `prefix`, was consumed, and was written if it
-- is whole: it has `got` bytes
pub record SectorForwarded (cipher : Cipher) (number len : ℕ) (prefix : List ℕ) (got : ℕ)
    (left left' before after : Option (List ℕ)) (unwritten : Type 0) : Type 0 where
  pub most : got ≤ len
  pub consumed : IfKnown left
      (λ known. (got ≡ min len (length (prefix ++ known))) × ConsumedExactly known left' (got - length prefix))
  pub written : got ≡ len
      → IfKnown left (λ known. Appended before after (unit_plain cipher number (take got (prefix ++ known))))
  pub whole : got ≡ len → AppendsUnit cipher number len prefix before after
  pub torn : got < len → unwritten

-- a read or a write of that sector failed
pub record SectorAborted (cipher : Cipher) (number len : ℕ) (prefix : List ℕ) (fault : PayloadFault)
    (left left' before after : Option (List ℕ)) (unwritten : Type 0) : Type 0 where
  pub known : IfKnown left (λ known. AbortsInSector cipher number len prefix known left' before after fault)
  pub unread : fault ≡ Read → unwritten
  pub only : (fault ≡ Read) ⊎ (fault ≡ Write)

-- the effect of forwarding that sector
abbrev pub SectorEffect : Cipher → ℕ → ℕ → List ℕ → Result ℕ PayloadFault → Option (List ℕ) → Option (List ℕ)
    → Option (List ℕ) → Option (List ℕ) → Type 0 → Type 0
SectorEffect cipher number len prefix answer left left' before after unwritten = MatchResult answer
    (λ got. SectorForwarded cipher number len prefix got left left' before after unwritten)
    (λ fault. SectorAborted cipher number len prefix fault left left' before after unwritten)

-- the largest number of sectors that are forwarded: those of a payload of fixed size, or otherwise 2^64 - 1
abbrev pub max_sectors_of : Option ℕ → ℕ → ℕ
max_sectors_of None sector = 2 ^ 64 - 1
max_sectors_of (Some size) sector = size / sector

-- the largest number of sectors that are forwarded of this segment's payload
abbrev pub max_sectors : Segment → ℕ
max_sectors s = max_sectors_of s.size (sector_len s)

-- a pump: the payload and its cipher, the number of bytes of the image before the payload that were consumed when it
-- was made, the number of sectors that it has forwarded, its state, and the next bytes of the payload that were
-- consumed before it was made
pub record PumpModel : Type 0 where
  pub segment : Segment
  pub cipher : Cipher
  pub consumed_before : ℕ
  pub count : ℕ
  pub state : State
  pub prefix : List ℕ

-- a pump in this state has neither ended nor failed
abbrev pub is_running : State → Bool
is_running BeforePayload = true
is_running InPayload = true
is_running _ = false

-- the offset of the next byte in the image
abbrev pub next_offset : State → ℕ → ℕ → ℕ
next_offset BeforePayload consumed next = consumed
next_offset _ consumed next = next

-- the offset in the image of the next byte that a pump skips or forwards
abbrev pub position : PumpModel → ℕ
position p = next_offset p.state p.consumed_before (sector_start p.segment p.count)

-- the number of bytes of the image that were consumed
abbrev pub consumed_by : PumpModel → ℕ
consumed_by p = position p + length p.prefix

-- a pump is running, and is in an image whose other bytes remain in the source
pub record PositionedIn (image : List ℕ) (pump : PumpModel) (left' : Option (List ℕ)) : Type 0 where
  pub running : IsTrue (is_running pump.state)
  pub positioned : PositionedAt image pump.prefix (position pump) left'

-- the state of a pump after a skip
abbrev pub state_after_skip : {T : Type 0} → State → Result T PayloadFault → State
state_after_skip BeforePayload (Ok _) = InPayload
state_after_skip BeforePayload (Err fault) = Faulted fault
state_after_skip InPayload _ = InPayload
state_after_skip Ended _ = Ended
state_after_skip (Faulted fault) _ = Faulted fault

-- a skip touches nothing and repeats its answer if the pump is not before its payload
abbrev pub SkipsAgain : State → Result (Unit {0}) PayloadFault → Type 0 → Type 0
SkipsAgain BeforePayload answer untouched = Unit {0}
SkipsAgain (Faulted fault) answer untouched = (answer ≡ Err fault) × untouched
SkipsAgain _ answer untouched = (answer ≡ Ok tt) × untouched

-- a skip consumed the image up to the payload's start, or was aborted
abbrev pub SkipEffect : PumpModel → List ℕ → Result (Unit {0}) PayloadFault → Option (List ℕ) → Type 0
SkipEffect p image (Ok _) left = ConsumedExactly image left p.segment.offset
SkipEffect p image (Err CutBeforePayload) left = (length image < p.segment.offset)
    × ConsumedExactly image left (length image)
SkipEffect p image (Err Read) left = ConsumedBetween image left p.consumed_before p.segment.offset
SkipEffect p image _ left = ⊥

-- a pump after a step
abbrev pub after_step : PumpModel → Result Step PayloadFault → PumpModel
after_step p (Ok Sector) =
    record p { count = p.count + 1; state = InPayload; prefix = drop (sector_len p.segment) p.prefix }
after_step p (Ok End) = record p { state = Ended }
after_step p (Err fault) = record p { state = Faulted fault }

-- a step touches nothing if the pump has ended or failed, or has forwarded as many sectors as its limit allows (`full`)
abbrev pub StepsIdle : State → Type 0 → Result Step PayloadFault → Type 0 → Type 0
StepsIdle BeforePayload full answer untouched = Unit {0}
StepsIdle InPayload full answer untouched = full → (answer ≡ Ok End) × untouched
StepsIdle Ended full answer untouched = (answer ≡ Ok End) × untouched
StepsIdle (Faulted fault) full answer untouched = (answer ≡ Err fault) × untouched

-- a step that forwards a sector has written it, and one that ends or fails before a write has written nothing
abbrev pub WritesSectors : Result Step PayloadFault → Type 0 → Type 0 → Type 0
WritesSectors (Ok Sector) written unwritten = written
WritesSectors (Err Write) written unwritten = Unit {0}
WritesSectors _ written unwritten = unwritten

-- how the payload ends after `count` sectors: at its limit, or because less than one sector remains in the source
abbrev pub EndsAt : Segment → ℕ → Result Step PayloadFault → Type 0
EndsAt s count answer = ((count ≡ max_sectors s) × (answer ≡ Ok End))
    ⊎ ((count < max_sectors s) × ((more : ℕ) × (more < sector_len s)
    × (answer ≡ ending_of_len s.size (sector_len s) (count * sector_len s + more))))

-- the answers that a step may give, whatever its devices do
abbrev pub MayAnswer : State → Segment → ℕ → Result Step PayloadFault → Type 0
MayAnswer state s count (Ok Sector) = count < max_sectors s
MayAnswer state s count (Err CutBeforePayload) = state ≡ BeforePayload
MayAnswer state s count (Err Read) = Unit {0}
MayAnswer state s count (Err Write) = Unit {0}
MayAnswer state s count ending = EndsAt s count ending

-- whether a step after `count` sectors hit EOF; it did not if a limit ended the payload
abbrev pub hits_eof_at : Segment → ℕ → Result Step PayloadFault → Bool
hits_eof_at s count (Ok End) = nat_lt count (max_sectors s)
hits_eof_at s count (Err CutBeforePayload) = true
hits_eof_at s count (Err (Tail _)) = true
hits_eof_at s count (Err (Short _)) = true
hits_eof_at s count _ = false

-- sector `count` was consumed from an image whose first `already` bytes had been consumed before, and nothing past it
pub record ConsumesSector (image : List ℕ) (segment : Segment) (count already : ℕ) (left : Option (List ℕ))
    : Type 0 where
  pub is_one : count < sectors_of segment image
  pub consumption : ConsumedExactly image left (max already (sector_start segment (count + 1)))

-- the payload came to its specified end after `count` sectors, and all of it was consumed from an image whose
-- first `already` bytes had been consumed before
pub record EndEffect (image : List ℕ) (segment : Segment) (count already : ℕ) (answer : Result Step PayloadFault)
    (left : Option (List ℕ)) : Type 0 where
  pub all : count ≡ sectors_of segment image
  pub as_specified : answer ≡ ending_of segment image
  pub consumption : ConsumedExactly image left (max already (payload_end_of segment image))

-- the effect of a step after `count` sectors, in an image whose first `already` bytes had been consumed before
abbrev pub StepEffect : Segment → Cipher → ℕ → ℕ → List ℕ → Result Step PayloadFault → Option (List ℕ) → Option (List ℕ)
    → Option (List ℕ) → Type 0
StepEffect s cipher count already image (Ok Sector) left before after =
    ConsumesSector image s count already left × Appended before after (sector_plaintext s cipher image count)
StepEffect s cipher count already image (Err Read) left before after =
    ConsumedBetween image left already (min (sector_start s (count + 1)) (payload_end_of s image + 1))
StepEffect s cipher count already image (Err Write) left before after =
    ConsumesSector image s count already left
    × ((written : ℕ) × (written < sector_len s) × Appended before after (take written
    (sector_plaintext s cipher image count)))
StepEffect s cipher count already image ending left before after = EndEffect image s count already ending left
