-- Where the payload of LUKS2 is, or why it cannot be read (LUKS2 On-Disk Format Specification 1.1, section 3, the
-- segments object and the config object).
use Rattle.std.specs.Prelude.{ℕ, ◌%◌, ◌==◌, ◌&&◌, ◌||◌, not, nat_lt, Bool}
use Rattle.std.specs.Prelude.{true, false, List, [], ◌∷◌, Option, Some, None}
use Rattle.std.specs.Prelude.{Result, codes, is_none, is_some, if◌then◌else◌, option_and_then, option_map, unwrap_or}
use Rattle.std.specs.Option.{option_map_or}
use Rattle.std.specs.Result.{result_ok}
use Rattle.luks_cipher.specs.declared.mode.Mode.{Mode}
use Rattle.luks_format.specs.SectorSize.{has_whole_sectors, sector_size_with}
use Rattle.luks_format.specs.Segment.{refused_or, segment_from}
use Rattle.luks_format.specs.Table.{first_match}
use Rattle.luks_format.specs.declared.refusal.SegmentFault.{SegmentFault}
use Rattle.luks_format.specs.declared.refusal.SegmentFault.TheVariants.{Requirement, Segments, Member, Kind, Integrity}
use Rattle.luks_format.specs.declared.refusal.SegmentFault.TheVariants.{Encryption, SectorSize, Offset, Size}
use Rattle.luks_format.specs.declared.sector_size.SectorSize.{SectorSize as Sector}
use Rattle.luks_format.specs.declared.segment.Segment.{Segment}
use Rattle.luks2_metadata.specs.declared.bounds.Bounds.{Bounds}
use Rattle.luks2_json.specs.Member.{decimal_member, has, string_is, is_type, string_member, integer_member, in_member}
use Rattle.luks2_json.specs.Member.{encryption_mode, passes}
use Rattle.serde_json.specs.Data.{Data, array, null, no_items, Members, no_members, member}
use Rattle.serde_json.specs.Find.{as_object, get, get_member}

-- ---- requirements

-- the value is an empty array
abbrev pub is_empty_array : Data → Bool
is_empty_array (array no_items) = true
is_empty_array _ = false

-- `requirements` that require nothing: an empty array, or an object whose `mandatory` is missing or an empty array
unfoldable pub requires_nothing : Data → Bool
requires_nothing requirements =
    is_empty_array requirements
    || (is_some (as_object requirements) && option_map_or is_empty_array (get (codes "mandatory") requirements) true)

-- the configuration requires something of a program that reads the volume
unfoldable pub has_requirement : Data → Bool
has_requirement tree =
    passes (codes "config") (passes (codes "requirements") (λ value. not (requires_nothing value))) tree

-- ---- the segment and its members

-- the only member, if it has this name
abbrev pub only_member : List ℕ → Members → Option Data
only_member name no_members = None
only_member name (member found value no_members) = get_member name (member found value no_members)
only_member name (member _ _ (member _ _ _)) = None

-- the segment, if there is exactly one and it is named 0
unfoldable pub the_segment : Data → Option Data
the_segment tree = option_and_then (only_member (codes "0")) (in_member (codes "segments") as_object tree)

-- the segment's value, or null if there is no such segment
abbrev pub segment_value : Data → Data
segment_value tree = unwrap_or (the_segment tree) null

-- the segment's length in bytes, or `Some None` if it extends to the image's end
unfoldable pub size_member : Data → Option (Option ℕ)
size_member segment = if string_is (codes "size") (codes "dynamic") segment then Some None
    else option_map (λ bytes. Some bytes) (decimal_member (codes "size") segment)

-- the segment's sector size, if it is one of the four that the format allows
unfoldable pub sector_size_of : Data → Option Sector
sector_size_of segment = option_and_then sector_size_with (integer_member (codes "sector_size") segment)

-- the mode of AES in which the segment's sectors are encrypted
unfoldable pub mode2_of : Data → Option Mode
mode2_of segment = option_and_then encryption_mode (string_member (codes "encryption") segment)

-- every member of a segment of type crypt is present and of the right type
unfoldable pub has_segment_members : Data → Bool
has_segment_members segment =
    is_some (decimal_member (codes "offset") segment)
    && is_some (size_member segment)
    && is_some (decimal_member (codes "iv_tweak") segment)
    && is_some (string_member (codes "encryption") segment)
    && is_some (integer_member (codes "sector_size") segment)

-- the segment's type is a string, and a segment of type crypt has its members
unfoldable pub is_segment : Data → Bool
is_segment segment =
    is_some (string_member (codes "type") segment)
    && (not (is_type (codes "crypt") segment) || has_segment_members segment)

-- ---- the table of faults

-- the segment has no offset, or starts inside an attached header or not at a multiple of 512 bytes
unfoldable pub offset_is_wrong : Bounds → Option ℕ → Bool
offset_is_wrong bounds None = true
offset_is_wrong bounds (Some offset) = (not bounds.detached && nat_lt offset bounds.end) || not (offset % 512 == 0)

-- the segment's length or sector size is missing, or its length is fixed and not a multiple of the sector size
unfoldable pub size_is_wrong : Option (Option ℕ) → Option Sector → Bool
size_is_wrong (Some size) (Some sector_size) = not (has_whole_sectors size sector_size)
size_is_wrong _ _ = true

-- the possible faults of a segment that exists, in a header with these bounds
abbrev pub segment_faults : Bounds → Data → List (Bool × SegmentFault)
segment_faults bounds segment =
    (not (is_segment segment), Member)
    ∷ (not (is_type (codes "crypt") segment), Kind)
    ∷ (has (codes "integrity") segment, Integrity)
    ∷ (is_none (mode2_of segment), Encryption)
    ∷ (is_none (sector_size_of segment), SectorSize)
    ∷ (offset_is_wrong bounds (decimal_member (codes "offset") segment), Offset)
    ∷ (size_is_wrong (size_member segment) (sector_size_of segment), Size)
    ∷ []

-- the first fault of the header's segment
unfoldable pub fault2_of : Data → Bounds → Option SegmentFault
fault2_of tree bounds = first_match (
    (has_requirement tree, Requirement)
    ∷ (is_none (the_segment tree), Segments)
    ∷ segment_faults bounds (segment_value tree))

-- the segment with the values of its members, if each can be read and is in range
unfoldable pub segment_of_members : Data → Option Segment
segment_of_members segment =
    segment_from (decimal_member (codes "offset") segment) (size_member segment)
    (decimal_member (codes "iv_tweak") segment) (sector_size_of segment) (mode2_of segment)

-- ---- the segment

-- the segment, or its first fault
unfoldable pub segment2_of : Data → Bounds → Result Segment SegmentFault
segment2_of tree bounds = refused_or (fault2_of tree bounds) (segment_of_members (segment_value tree))

-- ---- values that key slots are checked against

-- where the payload starts, if the header is attached and the segment is not refused: the limit of key material
unfoldable pub payload2_start : Data → Bounds → Option ℕ
payload2_start tree bounds =
    if bounds.detached then None else option_map (λ segment. segment.offset) (result_ok (segment2_of tree bounds))

-- the mode of the payload, if the segment is not refused
unfoldable pub payload_mode2_of : Data → Bounds → Option Mode
payload_mode2_of tree bounds = option_map (λ segment. segment.mode) (result_ok (segment2_of tree bounds))
