-- Where the payload of LUKS1 is, or why it cannot be read.
use Rattle.std.specs.Prelude.{◌*◌, ◌&&◌, ℕ, not, nat_lt, Bool, false, List}
use Rattle.std.specs.Prelude.{[], ◌∷◌, Option, Some, None, Result, is_none}
use Rattle.std.specs.Option.{option_map_or}
use Rattle.luks_cipher.specs.Sector.{is_mode_key_length}
use Rattle.luks_format.specs.Segment.{refused_or, segment_from}
use Rattle.luks_format.specs.Table.{first_match}
use Rattle.luks_format.specs.declared.refusal.SegmentFault.{SegmentFault}
use Rattle.luks_format.specs.declared.refusal.SegmentFault.TheVariants.{Encryption, Hash, KeyBytes, Offset}
use Rattle.luks_format.specs.declared.sector_size.SectorSize.TheVariants.{B512}
use Rattle.luks_format.specs.declared.segment.Segment.{Segment}
use Rattle.luks_format.specs.Header1.{header1_len}
use Rattle.luks_format.specs.Slot1.{hash1_of, mode1_of}
use Rattle.luks_format.specs.declared.header.Header1.{Header1}

-- the possible faults of the segment. The third is that the length of the volume key is none of the mode. The last is
-- that it starts inside an attached header. (It starts at a multiple of 512 bytes.)
unfoldable pub segment_faults1 : Header1 → List (Bool × SegmentFault)
segment_faults1 header =
    (is_none (mode1_of header), Encryption)
    ∷ (is_none (hash1_of header), Hash)
    ∷ (not (option_map_or (λ mode. is_mode_key_length mode header.key_bytes) (mode1_of header) false), KeyBytes)
    ∷ (not header.detached && nat_lt (512 * header.payload_offset) header1_len, Offset)
    ∷ []

-- the segment of a header, or its first fault. It goes to the image's end, and its sectors of 512 bytes are numbered
-- from 0
unfoldable pub segment1_of : Header1 → Result Segment SegmentFault
segment1_of header = refused_or (first_match (segment_faults1 header))
    (segment_from (Some (512 * header.payload_offset)) (Some None) (Some 0) (Some B512) (mode1_of header))
