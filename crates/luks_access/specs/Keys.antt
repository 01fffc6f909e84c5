-- What comparing a known volume key with the header of an image gives, and where its headers end.
use Rattle.std.specs.Prelude.{ℕ, ◌*◌, List, MatchBool, Option, Some, option_map, Result, Ok, Err, if◌then◌else◌, length}
use Rattle.luks_io.specs.Devices.{ConsumedAtMost, ConsumedExactly}
use Rattle.luks_cipher.specs.Sector.{is_mode_key_length}
use Rattle.luks_format.specs.declared.fault.HeaderFault.{HeaderFault}
use Rattle.luks_format.specs.declared.refusal.SegmentFault.{SegmentFault}
use Rattle.luks_format.specs.declared.segment.Segment.{Segment}
use Rattle.luks_format.specs.Header1.{header1_len, is_luks1}
use Rattle.luks_format.specs.Choice2.{chosen2_of}
use Rattle.luks_format.specs.declared.binary_header2.Header2.{Header2}
use Rattle.luks_header.specs.Header.{header_read_len}
use Rattle.luks_header.specs.HeaderSegment.{segment_of}
use Rattle.luks_header.specs.declared.header.Header.{Header}
use Rattle.luks_open.specs.Fault.{aborts_opening, has_fault}
use Rattle.luks_open.specs.VolumeKey.{compared, key_digest_of}
use Rattle.luks_open.specs.declared.fault.OpenFault.TheVariants.{Memory}
use Rattle.luks_open.specs.declared.fault.VolumeFault.{VolumeFault}
use Rattle.luks_open.specs.declared.fault.VolumeFault.TheVariants as V
use Rattle.luks_open.specs.declared.volume_key.KeyCheck.{KeyCheck}
use Rattle.luks_open.specs.declared.volume_key.KeyCheck.TheVariants.{Differs}
use Rattle.luks_open.specs.Location.{reader_for}
use Rattle.luks_open.specs.declared.location.HeaderLocation.{HeaderLocation}

-- comparing a key may end with this fault
abbrev pub KeyCheckFault : VolumeFault → Type 0
KeyCheckFault (V.Header _) = Unit {0}
KeyCheckFault (V.Segment _) = Unit {0}
KeyCheckFault (V.Slots Memory) = Unit {0}
KeyCheckFault _ = ⊥

-- a key of a length that the segment's mode has is compared with the header's digest; any other differs
abbrev pub check_in_segment : Header → Option ℕ → List ℕ → Result Segment SegmentFault → Result KeyCheck VolumeFault
check_in_segment header limit key (Ok s) =
    Ok (if is_mode_key_length s.mode (length key) then compared limit (key_digest_of header) key else Differs)
check_in_segment header limit key (Err fault) = Err (V.Segment fault)

-- the same for the header that was read, or the fault if none was
abbrev pub check_in_header : Option ℕ → List ℕ → Result Header HeaderFault → Result KeyCheck VolumeFault
check_in_header limit key (Ok header) = check_in_segment header limit key (segment_of header)
check_in_header limit key (Err fault) = Err (V.Header fault)

-- what comparing a key with the header at the start of an image, or of its own file, gives
unfoldable pub key_check_of : HeaderLocation → Option ℕ → List ℕ → List ℕ → Result KeyCheck VolumeFault
key_check_of location limit image key = check_in_header limit key (reader_for location image)

-- comparing a key ended in this way: the bytes that are read for the header were consumed, or no more than these if a
-- read failed or memory ran out
abbrev pub ConsumesToCheck : {T : Type 0} → List ℕ → Result T VolumeFault → Option (List ℕ) → Type 0
ConsumesToCheck header result left =
    MatchBool (has_fault aborts_opening result) (ConsumedAtMost header left (header_read_len header))
    (ConsumedExactly header left (header_read_len header))

-- the number of first bytes of an image that hold its headers, if these bytes of it say so: those of LUKS1, or the
-- LUKS2 header that is chosen in them and the other one, which is as long
abbrev pub headers_end : List ℕ → Option ℕ
headers_end image =
    if is_luks1 image then Some header1_len else option_map (λ (header : Header2). 2 * header.size) (chosen2_of image)
