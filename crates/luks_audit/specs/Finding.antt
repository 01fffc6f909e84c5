-- The findings of luksCheck, in two lists: what is wrong, and what is well-formed but not supported by luksrd.
use Rattle.std.specs.Prelude.{ℕ, ◌&&◌, Bool, true, false, List, [], ◌∷◌, flat_map, if◌then◌else◌}
use Rattle.luks_report.specs.Findings.{finding_text}
use Rattle.luks_report.specs.declared.findings.Finding.{Finding}
use Rattle.luks_report.specs.declared.findings.Finding.TheVariants as F
use Rattle.luks_format.specs.declared.refusal.SegmentFault.{SegmentFault}
use Rattle.luks_format.specs.declared.refusal.SegmentFault.TheVariants as S
use Rattle.luks_format.specs.declared.refusal.SkipReason.{SkipReason}
use Rattle.luks_format.specs.declared.refusal.SkipReason.TheVariants as R
use Rattle.luks_header.specs.declared.header.Header.{Header}
use Rattle.luks_header.specs.declared.header.Header.TheVariants.{V1, V2}
use Rattle.luks_audit.specs.Shape.{has_integrity, has_segment, has_slot_type, names_requirements}
use Rattle.serde_json.specs.Data.{Data, string}

-- ---- what luksrd does not support

-- LUKS1: a cipher or a hash function that luksrd does not know
abbrev pub is_unsupported1 : Finding → Bool
is_unsupported1 (F.Segment S.Encryption) = true
is_unsupported1 (F.Segment S.Hash) = true
is_unsupported1 _ = false

-- LUKS2: requirements, a segment of another type, integrity tags, or a cipher that luksrd does not know. With
-- requirements, luksCheck does not look at the segment
abbrev pub is_unsupported_segment : Data → SegmentFault → Bool
is_unsupported_segment tree S.Requirement = names_requirements tree && has_segment tree
is_unsupported_segment tree S.Kind = true
is_unsupported_segment tree S.Integrity = has_integrity tree
is_unsupported_segment tree S.Encryption = true
is_unsupported_segment tree _ = false

-- LUKS2: a key slot of another type, or a key derivation, a hash function or a cipher that luksrd does not know
abbrev pub is_unsupported_slot : Data → ℕ → SkipReason → Bool
is_unsupported_slot tree number R.Kind = has_slot_type tree number
is_unsupported_slot tree number R.Kdf = true
is_unsupported_slot tree number R.Hash = true
is_unsupported_slot tree number R.Encryption = true
is_unsupported_slot tree number _ = false

abbrev pub is_unsupported2 : Data → Finding → Bool
is_unsupported2 tree (F.Segment fault) = is_unsupported_segment tree fault
is_unsupported2 tree (F.Slot number reason) = is_unsupported_slot tree number reason
is_unsupported2 tree _ = false

abbrev pub is_unsupported : Header → Finding → Bool
is_unsupported (V1 header) finding = is_unsupported1 finding
is_unsupported (V2 header tree) finding = is_unsupported2 tree finding

-- ---- the two lists

-- a finding in the one list, or in the other, as `luksCheck` prints it
abbrev pub wrong : Header → Finding → List Data
wrong header finding = if is_unsupported header finding then [] else string (finding_text finding) ∷ []

abbrev pub unsupported : Header → Finding → List Data
unsupported header finding = if is_unsupported header finding then string (finding_text finding) ∷ [] else []

abbrev pub finding_values : Header → List Finding → List Data
finding_values header found = flat_map (wrong header) found

abbrev pub unsupported_values : Header → List Finding → List Data
unsupported_values header found = flat_map (unsupported header) found
