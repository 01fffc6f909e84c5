-- Which member of a LUKS2 header each field is (LUKS2 On-Disk Format Specification 1.1, sections 2.1 and 3).
use Rattle.std.specs.Prelude.{ℕ, ◌||◌, Bool, false, List, Option, Some, None, codes, if◌then◌else◌, length}
use Rattle.std.specs.Prelude.{option_and_then, option_map, unwrap_or}
use Rattle.luks_format.specs.Rule.{max_slots}
use Rattle.luks_format.specs.declared.slot.VerdictKind.{VerdictKind}
use Rattle.luks_format.specs.declared.binary_header2.Header2.{Header2}
use Rattle.luks2_json.specs.List.{strings_at}
use Rattle.luks2_json.specs.Member.{base64_member, decimal_member, has, in_member, integer_member, is_type}
use Rattle.luks2_json.specs.Member.{string_is, string_member}
use Rattle.luks2_json.specs.Numbered.{lowest, object_numbered}
use Rattle.luks_audit.specs.Cipher.{cipher_mode2}
use Rattle.luks_audit.specs.Tree.{unless_float}
use Rattle.luks_audit.specs.declared.rows.DigestRow.{DigestRow}
use Rattle.luks_audit.specs.declared.rows.HeaderRow.{HeaderRow}
use Rattle.luks_audit.specs.declared.rows.Length.{Length}
use Rattle.luks_audit.specs.declared.rows.Length.TheVariants.{Dynamic, Fixed}
use Rattle.luks_audit.specs.declared.rows.PayloadRow.{PayloadRow}
use Rattle.luks_audit.specs.declared.rows.SlotRow.{SlotRow}
use Rattle.luks_audit.specs.declared.rows.TokenRow.{TokenRow}
use Rattle.luks_audit.specs.declared.text.Text.{Text}
use Rattle.luks_audit.specs.declared.text.Text.TheVariants.{Fixed, Unicode, Binary}
use Rattle.serde_json.specs.Data.{Data, Members, no_members, member}
use Rattle.serde_json.specs.Find.{as_object, get}

unfoldable pub header2_row : Header2 → HeaderRow
header2_row header = record {
  version = 2;
  uuid = Fixed header.uuid;
  label = Some (Fixed header.label);
  subsystem = Some (Fixed header.subsystem);
  role = Some header.role;
  finding = header.finding;
  seqid = Some header.sequence;
  header_size = Some header.size;
  checksum_hash = Some header.hash;
  salt = Some (Binary header.salt);
}

-- ---- the payload: segment 0, whether or not there are others

-- the length of the volume key in bytes, by the lowest-numbered key slot that has one and is of type luks2
abbrev pub key_size_in : Data → Option ℕ
key_size_in slot = if is_type (codes "luks2") slot then integer_member (codes "key_size") slot else None

abbrev pub key_size_at : Data → ℕ → Option ℕ
key_size_at tree number = option_and_then key_size_in (object_numbered (codes "keyslots") tree number)

unfoldable pub volume_key_size : Data → Option ℕ
volume_key_size tree = lowest (key_size_at tree) max_slots

-- a member of segment 0
abbrev pub in_segment0 : {T : Type 0} → (Data → Option T) → Data → Option T
in_segment0 find tree = option_and_then find (object_numbered (codes "segments") tree 0)

-- the segment's length: in bytes, or `dynamic` if it goes to the image's end
unfoldable pub length_in : Data → Option Length
length_in segment =
    if string_is (codes "size") (codes "dynamic") segment then Some Dynamic
    else option_map Fixed (decimal_member (codes "size") segment)

-- the names of mandatory requirements
abbrev pub requirements_of : Data → Option (List (List ℕ))
requirements_of tree =
    option_map (strings_at (codes "mandatory")) (in_member (codes "config") (get (codes "requirements")) tree)

-- the strings in `flags` of segment 0 and of the configuration
abbrev pub segment_flags_of : Data → Option (List (List ℕ))
segment_flags_of tree = option_map (strings_at (codes "flags")) (object_numbered (codes "segments") tree 0)

abbrev pub flags_of : Data → Option (List (List ℕ))
flags_of tree = option_map (strings_at (codes "flags")) (get (codes "config") tree)

-- one of the segments has the type `linear`: its data is not encrypted
abbrev pub any_linear : Members → Bool
any_linear no_members = false
any_linear (member name segment rest) = is_type (codes "linear") segment || any_linear rest

unfoldable pub has_linear : Data → Bool
has_linear tree = unwrap_or (option_map any_linear (in_member (codes "segments") as_object tree)) false

unfoldable pub payload2_row : Data → PayloadRow
payload2_row tree = record {
  cipher = option_map Unicode (in_segment0 (string_member (codes "encryption")) tree);
  key_bytes = volume_key_size tree;
  sector_size = in_segment0 (integer_member (codes "sector_size")) tree;
  iv_tweak = in_segment0 (decimal_member (codes "iv_tweak")) tree;
  segment_offset = in_segment0 (decimal_member (codes "offset")) tree;
  segment_size = in_segment0 length_in tree;
  segment_type = option_map Unicode (in_segment0 (string_member (codes "type")) tree);
  segment_flags = segment_flags_of tree;
  integrity = option_map Unicode (in_segment0 (in_member (codes "integrity") (string_member (codes "type"))) tree);
  flags = flags_of tree;
  requirements = requirements_of tree;
  has_linear = has_linear tree;
  mode = cipher_mode2 (in_segment0 (string_member (codes "encryption")) tree);
}

-- ---- key slots, digests and tokens

-- the priority: 1 if it is missing
unfoldable pub priority2_of : Data → Option ℕ
priority2_of slot = if has (codes "priority") slot then integer_member (codes "priority") slot else Some 1

-- the string under a name in an object of a slot
abbrev pub nested_text : List ℕ → List ℕ → Data → Option Text
nested_text object name slot = option_map Unicode (in_member object (string_member name) slot)

-- a slot of another type than luks2 holds no key
unfoldable pub slot2_row : Data → ℕ → VerdictKind → Bool → SlotRow
slot2_row slot number verdict library_can_try = record {
  number = number;
  verdict = verdict;
  library_can_try = library_can_try;
  priority = priority2_of slot;
  key_bytes = integer_member (codes "key_size") slot;
  kdf = nested_text (codes "kdf") (codes "type") slot;
  hash = nested_text (codes "kdf") (codes "hash") slot;
  salt = option_map Binary (in_member (codes "kdf") (base64_member (codes "salt")) slot);
  iterations = in_member (codes "kdf") (integer_member (codes "iterations")) slot;
  time = in_member (codes "kdf") (integer_member (codes "time")) slot;
  memory = in_member (codes "kdf") (integer_member (codes "memory")) slot;
  threads = in_member (codes "kdf") (integer_member (codes "cpus")) slot;
  af_hash = nested_text (codes "af") (codes "hash") slot;
  stripes = in_member (codes "af") (integer_member (codes "stripes")) slot;
  area_cipher = nested_text (codes "area") (codes "encryption") slot;
  area_key_bytes = in_member (codes "area") (integer_member (codes "key_size")) slot;
  area_offset = in_member (codes "area") (decimal_member (codes "offset")) slot;
  area_size = in_member (codes "area") (decimal_member (codes "size")) slot;
  holds_key = is_type (codes "luks2") slot;
  mode = cipher_mode2 (in_member (codes "area") (string_member (codes "encryption")) slot);
}

unfoldable pub digest2_row : Data → ℕ → DigestRow
digest2_row digest number = record {
  number = number;
  kind = option_map Unicode (string_member (codes "type") digest);
  hash = option_map Unicode (string_member (codes "hash") digest);
  salt = option_map Binary (base64_member (codes "salt") digest);
  iterations = integer_member (codes "iterations") digest;
  digest = option_map Binary (base64_member (codes "digest") digest);
  bytes = option_map (λ (bytes : List ℕ). length bytes) (base64_member (codes "digest") digest);
  keyslots = Some (strings_at (codes "keyslots") digest);
  segments = Some (strings_at (codes "segments") digest);
}

-- a token, with its whole object
unfoldable pub token2_row : Data → ℕ → TokenRow
token2_row token number = record {
  number = number;
  kind = option_map Unicode (string_member (codes "type") token);
  keyslots = strings_at (codes "keyslots") token;
  stored = unless_float token;
}
