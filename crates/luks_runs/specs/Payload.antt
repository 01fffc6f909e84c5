-- The effects of forwarding a payload on its devices.
use Rattle.std.specs.Prelude.{◌≡◌, ℕ, ◌+◌, ◌-◌, ◌*◌, ◌/◌, ◌^◌, ◌<◌, ◌≤◌, List, length, max, min, take, Option}
use Rattle.std.specs.Prelude.{Bool, true, false}
use Rattle.std.specs.Option.{option_map_or}
use Rattle.luks_cipher.specs.Sector.{Cipher}
use Rattle.luks_io.specs.Counts.{allowed_to}
use Rattle.luks_io.specs.Devices.{Appended, ConsumedExactly, max_count}
use Rattle.luks_io.specs.declared.counts.ReadCounts.{ReadCounts}
use Rattle.luks_format.specs.declared.segment.Segment.{Segment}
use Rattle.luks_payload.specs.Plain.{ending_of, payload_end_of, plain_of, sector_len, sector_start}
use Rattle.luks_payload.specs.Plain.{sectors_of}
use Rattle.luks_report.specs.Faults.{message_at_end}
use Rattle.luks_report.specs.declared.message.Message.{Message}
use Rattle.luks_report.specs.declared.message.Message.TheVariants.{Done, ReadFailed, WriteFailed}

-- the end of the payload, in the longest image whose bytes can be counted: a payload without a fixed size ends with its
-- image
abbrev pub max_payload_end : Segment → ℕ
max_payload_end s = option_map_or (λ size. min max_count (s.offset + size)) s.size max_count

-- the counts of the payload's image, for which read-ahead is allowed up to the payload's end
abbrev pub with_payload_allowed : Segment → ReadCounts → ReadCounts
with_payload_allowed s counts = allowed_to (max_payload_end s) counts

-- forwarding the payload of an image, whose first `loaded_len` bytes were consumed before, ended with this message: the
-- image was consumed up to the payload's end, and the plaintext was written; a read failed, and the whole sectors that
-- were consumed are written; or a write failed within a sector
abbrev pub ForwardsPayload : Segment → Cipher → List ℕ → ℕ → Option (List ℕ) → Option (List ℕ) → Option (List ℕ)
    → Message → Type 0
ForwardsPayload s cipher image loaded_len left before after ReadFailed =
    (end : ℕ) × (loaded_len ≤ end) × (count : ℕ) × (count ≡ (end - s.offset) / sector_len s)
    × (count ≤ sectors_of s image)
    × (end ≤ payload_end_of s image)
    × ConsumedExactly image left end × Appended before after (take (count * sector_len s) (plain_of s cipher image))
ForwardsPayload s cipher image loaded_len left before after WriteFailed =
    (count : ℕ) × (written : ℕ) × (count < sectors_of s image) × (written < sector_len s)
    × (sector_start s (count + 1) ≤ payload_end_of s image)
    × ConsumedExactly image left (max loaded_len (sector_start s (count + 1)))
    × Appended before after (take (count * sector_len s + written) (plain_of s cipher image))
ForwardsPayload s cipher image loaded_len left before after message =
    (message ≡ message_at_end (ending_of s image)) × ConsumedExactly image left
    (max loaded_len (payload_end_of s image)) × Appended before after (plain_of s cipher image)

-- the same for every image shorter than 2^64 bytes that starts with these loaded bytes, if the source has the rest
abbrev pub ForwardsLoaded : Segment → Cipher → List ℕ → Option (List ℕ) → Option (List ℕ) → Option (List ℕ)
    → Option (List ℕ) → Message → Type 0
ForwardsLoaded s cipher loaded rest left before after message =
    (image : List ℕ) → length image < 2 ^ 64 → loaded ≡ take (length loaded) image
    → ConsumedExactly image rest (length loaded)
    → ForwardsPayload s cipher image (length loaded) left before after message

-- whether forwarding a payload hit the end of the image: yes if the message is that the image ended, and no if a read
-- or a write failed; if the run succeeded, either is possible, since a payload of fixed size may end before its image
abbrev pub HitsPayloadEof : Message → Bool → Type 0
HitsPayloadEof Done ended = Unit {0}
HitsPayloadEof ReadFailed ended = ended ≡ false
HitsPayloadEof WriteFailed ended = ended ≡ false
HitsPayloadEof _ ended = ended ≡ true
