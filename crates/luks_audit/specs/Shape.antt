-- What is well-formed in the JSON area (LUKS2 On-Disk Format Specification 1.1, section 3): members that are there, and
-- of the standard's JSON types.
use Rattle.std.specs.Prelude.{ℕ, ◌&&◌, Bool, false, List, Option, codes, is_some, option_map, unwrap_or}
use Rattle.luks2_json.specs.List.{has_strings}
use Rattle.luks2_json.specs.Member.{in_member, passes, string_member}
use Rattle.luks2_json.specs.Numbered.{object_numbered}
use Rattle.luks2_metadata.specs.Segment2.{is_segment}
use Rattle.serde_json.specs.Data.{Data}
use Rattle.serde_json.specs.Find.{get}

-- there is a value, and it passes the test
abbrev pub holds_of : (Data → Bool) → Option Data → Bool
holds_of test value = unwrap_or (option_map test value) false

-- a string is under this name
abbrev pub has_string : List ℕ → Data → Bool
has_string name owner = is_some (string_member name owner)

-- the configuration has requirements, and an array of strings names them
unfoldable pub names_requirements : Data → Bool
names_requirements tree =
    holds_of (has_strings (codes "mandatory")) (in_member (codes "config") (get (codes "requirements")) tree)

-- segment 0 is there; if its type is `crypt`, it has the members of that type
unfoldable pub has_segment : Data → Bool
has_segment tree = holds_of is_segment (object_numbered (codes "segments") tree 0)

-- an integrity object has all its members
unfoldable pub is_integrity : Data → Bool
is_integrity integrity =
    has_string (codes "type") integrity
    && has_string (codes "journal_encryption") integrity
    && has_string (codes "journal_integrity") integrity

-- segment 0 has such an object
unfoldable pub has_integrity : Data → Bool
has_integrity tree =
    holds_of (passes (codes "integrity") is_integrity) (object_numbered (codes "segments") tree 0)

-- the key slot with this number names its type
unfoldable pub has_slot_type : Data → ℕ → Bool
has_slot_type tree number = holds_of (has_string (codes "type")) (object_numbered (codes "keyslots") tree number)
