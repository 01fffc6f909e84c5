-- The JSON area of a LUKS2 header (LUKS2 On-Disk Format Specification 1.1, section 3): the tree of its whole text.
use Rattle.std.specs.Prelude.{ℕ, ◌&&◌, Bool, List, Option, Some, None, codes, is_some, if◌then◌else◌, option_and_then}
use Rattle.std.specs.Str.{is_utf8}
use Rattle.luks2_json.specs.Member.{in_member}
use Rattle.serde_json.specs.Data.{Data}
use Rattle.serde_json.specs.Find.{as_object}
use Rattle.serde_json.specs.Read.{read}

-- the objects of key slots, segments and digests are present
unfoldable pub has_objects : Data → Bool
has_objects tree = is_some (in_member (codes "keyslots") as_object tree)
    && is_some (in_member (codes "segments") as_object tree)
    && is_some (in_member (codes "digests") as_object tree)

-- the tree of the text of a JSON area, if it can be read and has the objects. Bytes that are not UTF-8 cannot be read,
-- nor can values that are nested more than 127 deep
unfoldable pub tree_of : List ℕ → Option Data
tree_of text =
    option_and_then (λ tree. if has_objects tree then Some tree else None) (if is_utf8 text then read text else None)
