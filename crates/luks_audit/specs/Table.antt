-- The names of the members of each object, with their values as they are printed.
use Rattle.std.specs.Prelude.{ℕ, List, [], ◌∷◌, Option, Some, None, codes, map, option_map, unwrap_or}
use Rattle.luks_kdf.specs.Hash.{hash_name}
use Rattle.luks_format.specs.declared.binary_header2.PairFinding.{PairFinding}
use Rattle.luks_format.specs.declared.binary_header2.PairFinding.TheVariants.{PrimaryNotValid, SecondaryNotValid}
use Rattle.luks_format.specs.declared.binary_header2.PairFinding.TheVariants.{SequencesDiffer}
use Rattle.luks_report.specs.Dump2.{role_text}
use Rattle.luks_audit.specs.Text.{optional_text, text_value}
use Rattle.luks_audit.specs.Token.{slot_tokens}
use Rattle.luks_audit.specs.Tree.{array_of, empty_object, num, optional_num, optional_word, with_fields}
use Rattle.luks_audit.specs.Verdict.{is_kind_usable, kind_text, reason_in}
use Rattle.luks_audit.specs.declared.rows.DigestRow.{DigestRow}
use Rattle.luks_audit.specs.declared.rows.HeaderRow.{HeaderRow}
use Rattle.luks_audit.specs.declared.rows.Length.{Length}
use Rattle.luks_audit.specs.declared.rows.Length.TheVariants.{Dynamic, Fixed}
use Rattle.luks_audit.specs.declared.rows.PayloadRow.{PayloadRow}
use Rattle.luks_audit.specs.declared.rows.SlotRow.{SlotRow}
use Rattle.luks_audit.specs.declared.rows.TokenRow.{TokenRow}
use Rattle.serde_json.specs.Data.{Data, boolean, null, string}

-- the names of a list, or none
abbrev pub names_value : Option (List (List ℕ)) → Data
names_value names = array_of (map string (unwrap_or names []))

-- a segment's length: a number, or `dynamic`
abbrev pub length_value : Option Length → Data
length_value None = null
length_value (Some Dynamic) = string (codes "dynamic")
length_value (Some (Fixed bytes)) = num bytes

-- what is wrong with the header that is not the listed one
abbrev pub other_header_of : Option PairFinding → Option (List ℕ)
other_header_of None = None
other_header_of (Some PrimaryNotValid) = Some (codes "not valid")
other_header_of (Some SecondaryNotValid) = Some (codes "not valid")
other_header_of (Some SequencesDiffer) = Some (codes "sequence number differs")

-- which program printed the line, and by which policy
abbrev pub program_version : List ℕ
program_version = codes "1.3.0"

abbrev pub policy_number : ℕ
policy_number = 1

unfoldable pub program_fields : List (List ℕ × Data)
program_fields =
    (codes "program_version", string program_version)
    ∷ (codes "policy", num policy_number)
    ∷ []

-- where the header was found
unfoldable pub place_fields : List ℕ → ℕ → List (List ℕ × Data)
place_fields file offset =
    (codes "file", string file)
    ∷ (codes "offset", num offset)
    ∷ []

unfoldable pub volume_fields : HeaderRow → List (List ℕ × Data)
volume_fields row =
    (codes "version", num row.version)
    ∷ (codes "uuid", text_value row.uuid)
    ∷ (codes "label", optional_text row.label)
    ∷ (codes "subsystem", optional_text row.subsystem)
    ∷ (codes "header", optional_word (option_map role_text row.role))
    ∷ (codes "other_header", optional_word (other_header_of row.finding))
    ∷ []

unfoldable pub binary_fields : HeaderRow → List (List ℕ × Data)
binary_fields row =
    (codes "seqid", optional_num row.seqid)
    ∷ (codes "header_size", optional_num row.header_size)
    ∷ (codes "checksum_hash", optional_word (option_map hash_name row.checksum_hash))
    ∷ (codes "salt", optional_text row.salt)
    ∷ []

unfoldable pub payload_fields : PayloadRow → List (List ℕ × Data)
payload_fields row =
    (codes "cipher", optional_text row.cipher)
    ∷ (codes "key_bytes", optional_num row.key_bytes)
    ∷ (codes "sector_size", optional_num row.sector_size)
    ∷ (codes "iv_tweak", optional_num row.iv_tweak)
    ∷ (codes "segment_offset", optional_num row.segment_offset)
    ∷ (codes "segment_size", length_value row.segment_size)
    ∷ []

unfoldable pub segment_fields : PayloadRow → List (List ℕ × Data)
segment_fields row =
    (codes "segment_type", optional_text row.segment_type)
    ∷ (codes "segment_flags", names_value row.segment_flags)
    ∷ (codes "integrity", optional_text row.integrity)
    ∷ (codes "flags", names_value row.flags)
    ∷ (codes "requirements", names_value row.requirements)
    ∷ []

unfoldable pub verdict_fields : SlotRow → List (List ℕ × Data)
verdict_fields row =
    (codes "number", num row.number)
    ∷ (codes "state", string (kind_text row.verdict))
    ∷ (codes "reason", optional_word (reason_in row.verdict))
    ∷ (codes "can_try", boolean (is_kind_usable row.verdict))
    ∷ (codes "library_can_try", boolean row.library_can_try)
    ∷ []

unfoldable pub key_fields : SlotRow → List (List ℕ × Data)
key_fields row =
    (codes "priority", optional_num row.priority)
    ∷ (codes "key_bytes", optional_num row.key_bytes)
    ∷ (codes "kdf", optional_text row.kdf)
    ∷ (codes "hash", optional_text row.hash)
    ∷ (codes "salt", optional_text row.salt)
    ∷ (codes "iterations", optional_num row.iterations)
    ∷ (codes "time", optional_num row.time)
    ∷ (codes "memory", optional_num row.memory)
    ∷ (codes "threads", optional_num row.threads)
    ∷ []

unfoldable pub area_fields : SlotRow → List (List ℕ × Data)
area_fields row =
    (codes "af_hash", optional_text row.af_hash)
    ∷ (codes "stripes", optional_num row.stripes)
    ∷ (codes "area_cipher", optional_text row.area_cipher)
    ∷ (codes "area_key_bytes", optional_num row.area_key_bytes)
    ∷ (codes "area_offset", optional_num row.area_offset)
    ∷ (codes "area_size", optional_num row.area_size)
    ∷ []

-- a key slot, with the tokens that are for it
unfoldable pub slot_value : List TokenRow → SlotRow → Data
slot_value tokens row =
    with_fields ((codes "tokens", array_of (slot_tokens row.number tokens)) ∷ [])
    (with_fields (area_fields row) (with_fields (key_fields row) (with_fields (verdict_fields row) empty_object)))

unfoldable pub digest_value : DigestRow → Data
digest_value row = with_fields (
    (codes "number", num row.number)
    ∷ (codes "type", optional_text row.kind)
    ∷ (codes "hash", optional_text row.hash)
    ∷ (codes "salt", optional_text row.salt)
    ∷ (codes "iterations", optional_num row.iterations)
    ∷ (codes "digest", optional_text row.digest)
    ∷ (codes "bytes", optional_num row.bytes)
    ∷ (codes "keyslots", names_value row.keyslots)
    ∷ (codes "segments", names_value row.segments)
    ∷ []) empty_object

unfoldable pub token_value : TokenRow → Data
token_value row = with_fields (
    (codes "number", num row.number)
    ∷ (codes "type", optional_text row.kind)
    ∷ (codes "keyslots", names_value (Some row.keyslots))
    ∷ (codes "stored", row.stored)
    ∷ []) empty_object

-- the lists of a header
unfoldable pub list_fields : List SlotRow → List DigestRow → List TokenRow → List (List ℕ × Data)
list_fields slots digests tokens =
    (codes "slots", array_of (map (slot_value tokens) slots))
    ∷ (codes "digests", array_of (map digest_value digests))
    ∷ (codes "tokens", array_of (map token_value tokens))
    ∷ []

unfoldable pub judged_fields : List Data → List Data → List Data → List (List ℕ × Data)
judged_fields findings unsupported weak =
    (codes "findings", array_of findings)
    ∷ (codes "unsupported", array_of unsupported)
    ∷ (codes "weak", array_of weak)
    ∷ []
