-- The plaintext of a payload, over the whole image as one list of bytes.
use Rattle.std.specs.Prelude.{ℕ, ◌+◌, ◌-◌, ◌*◌, ◌/◌, ◌%◌, ◌==◌, min, nat_lt, if◌then◌else◌, List, length}
use Rattle.std.specs.Prelude.{Option, None, Some, Result, Ok, Err}
use Rattle.luks_cipher.specs.Sector.{Cipher, sector_decrypted}
use Rattle.luks_kdf.specs.Bytes.{joined}
use Rattle.luks_format.specs.Fields.{at}
use Rattle.luks_format.specs.SectorSize.{bytes_of}
pub use Rattle.luks_format.specs.Segment.{unit_number}
use Rattle.luks_format.specs.declared.segment.Segment.{Segment}
use Rattle.luks_payload.specs.declared.fault.PayloadFault.{PayloadFault}
use Rattle.luks_payload.specs.declared.fault.PayloadFault.TheVariants.{CutBeforePayload, Tail, Short}
use Rattle.luks_payload.specs.declared.state.Step.{Step}
use Rattle.luks_payload.specs.declared.state.Step.TheVariants.{End}

-- the length of a sector
abbrev pub sector_len : Segment → ℕ
sector_len s = bytes_of s.sector_size

-- the offset of sector i in the image
abbrev pub sector_start : Segment → ℕ → ℕ
sector_start s i = s.offset + i * sector_len s

-- the plaintext of a stored data unit. No other definition here applies the cipher
unfoldable pub unit_plain : Cipher → ℕ → List ℕ → List ℕ
unit_plain cipher number unit = sector_decrypted cipher.0 cipher.1 number unit

-- the plaintext of sector i
abbrev pub sector_plaintext : Segment → Cipher → List ℕ → ℕ → List ℕ
sector_plaintext s cipher image i = unit_plain cipher (unit_number s i) (at (sector_start s i) (sector_len s) image)

-- the number of bytes that belong to a payload of this size if the image has `len` bytes from its start on
abbrev pub payload_bytes : Option ℕ → ℕ → ℕ
payload_bytes None len = len
payload_bytes (Some size) len = min size len

-- the number of whole sectors that the payload has
abbrev pub sectors_of : Segment → List ℕ → ℕ
sectors_of s image = payload_bytes s.size (length image - s.offset) / sector_len s

-- the plaintext: all whole sectors, joined
abbrev pub plain_of : Segment → Cipher → List ℕ → List ℕ
plain_of s cipher image = joined (sector_plaintext s cipher image) (sectors_of s image)

-- how a payload ends if the image has `len` bytes from its start on
abbrev pub ending_of_len : Option ℕ → ℕ → ℕ → Result Step PayloadFault
ending_of_len None sector len = if len % sector == 0 then Ok End else Err (Tail (len % sector))
ending_of_len (Some size) sector len = if nat_lt len size then Err (Short (size - len)) else Ok End

-- how the payload ends
abbrev pub ending_of : Segment → List ℕ → Result Step PayloadFault
ending_of s image = if nat_lt (length image) s.offset then Err CutBeforePayload
    else ending_of_len s.size (sector_len s) (length image - s.offset)

-- the end of the payload in the image
abbrev pub payload_end_of : Segment → List ℕ → ℕ
payload_end_of s image = min (length image) (s.offset + payload_bytes s.size (length image - s.offset))
