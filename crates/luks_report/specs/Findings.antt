-- The findings in a header, in a fixed order, and the line of each.
use Rattle.std.specs.Prelude.{ℕ, ◌∷◌, ◌++◌, [], Bool, false, true, List, Option, Some, None, Result, Ok, Err, codes}
use Rattle.std.specs.Prelude.{flat_map, if◌then◌else◌, max, min, nat_lt}
use Rattle.std.specs.Fmt.{decimal}
use Rattle.luks_header.specs.HeaderSegment.{segment_of}
use Rattle.luks_header.specs.SegmentFault.{fault_text}
use Rattle.luks_header.specs.SkipReason.{reason_text}
use Rattle.luks_header.specs.SlotVerdicts.{has_name_out_of_range, verdicts_of}
use Rattle.luks_header.specs.declared.header.Header.{Header}
use Rattle.luks_header.specs.declared.header.Header.TheVariants.{V1, V2}
use Rattle.luks_format.specs.Slot.{material_end}
use Rattle.luks_format.specs.declared.refusal.SegmentFault.{SegmentFault}
use Rattle.luks_format.specs.declared.refusal.SkipReason.{SkipReason}
use Rattle.luks_format.specs.declared.refusal.SkipReason.TheVariants.{Argon2i, Argon2id}
use Rattle.luks_format.specs.declared.segment.Segment.{Segment}
use Rattle.luks_format.specs.declared.slot.Slot.{Slot}
use Rattle.luks_format.specs.declared.slot.Verdict.{Verdict}
use Rattle.luks_format.specs.declared.slot.Verdict.TheVariants.{Usable, Skipped}
use Rattle.luks_format.specs.declared.binary_header2.PairFinding.{PairFinding}
use Rattle.luks_format.specs.declared.binary_header2.PairFinding.TheVariants.{PrimaryNotValid, SecondaryNotValid}
use Rattle.luks_format.specs.declared.binary_header2.PairFinding.TheVariants.{SequencesDiffer}
use Rattle.luks_report.specs.declared.findings.Finding.{Finding}
use Rattle.luks_report.specs.declared.findings.Finding.TheVariants as F

-- ---- which findings there are

-- about the two headers of LUKS2, compared with each other. LUKS1 has one header
abbrev pub pair_finding : Option PairFinding → List Finding
pair_finding None = []
pair_finding (Some finding) = F.Pair finding ∷ []

abbrev pub pair_findings : Header → List Finding
pair_findings (V1 header) = []
pair_findings (V2 header tree) = pair_finding header.finding

-- about the names of key slots: one is out of range
abbrev pub name_findings : Header → List Finding
name_findings header = if has_name_out_of_range header then F.NameOutOfRange ∷ [] else []

-- about the segment: its fault
abbrev pub segment_findings : Result Segment SegmentFault → List Finding
segment_findings (Ok segment) = []
segment_findings (Err fault) = F.Segment fault ∷ []

-- whether a skipped key slot is a finding. A slot that uses Argon2 is not: luksrd cannot open it, and does not check
-- the rest of it
abbrev pub is_finding : SkipReason → Bool
is_finding Argon2i = false
is_finding Argon2id = false
is_finding _ = true

-- about the key slot with this number: why it is skipped
abbrev pub slot_findings : ℕ × Verdict → List Finding
slot_findings (number, Skipped reason) = if is_finding reason then F.Slot number reason ∷ [] else []
slot_findings _ = []

-- two areas of key material share a byte: the later of their starts is below the earlier of their ends
unfoldable pub do_overlap : Slot → Slot → Bool
do_overlap a b =
    nat_lt (max a.parts.area_offset b.parts.area_offset) (min (material_end a.parts) (material_end b.parts))

-- about two key slots: both can be tried, and their areas overlap
abbrev pub overlap : ℕ × Verdict → ℕ × Verdict → List Finding
overlap (i, Usable a) (j, Usable b) = if do_overlap a b then F.Overlap i j ∷ [] else []
overlap _ _ = []

-- about each two of these key slots, ordered by the first slot and then by the second
unfoldable pub overlaps : List (ℕ × Verdict) → List Finding
overlaps [] = []
overlaps (first ∷ rest) = flat_map (overlap first) rest ++ overlaps rest

-- all findings in a header. The number of iterations has no limit here
unfoldable pub finding_list : Header → List Finding
finding_list header = pair_findings header ++ name_findings header ++ segment_findings (segment_of header)
    ++ flat_map slot_findings (verdicts_of header None)
    ++ overlaps (verdicts_of header None)

-- ---- how they are printed

abbrev pub pair_text : PairFinding → List ℕ
pair_text PrimaryNotValid = codes "primary header: not valid"
pair_text SecondaryNotValid = codes "secondary header: not valid"
pair_text SequencesDiffer = codes "headers: sequence numbers differ"

abbrev pub finding_text : Finding → List ℕ
finding_text (F.Pair finding) = pair_text finding
finding_text F.NameOutOfRange = codes "keyslots: name out of range"
finding_text (F.Segment fault) = codes "segment: " ++ fault_text fault
finding_text (F.Slot number reason) = codes "slot " ++ decimal number ++ codes ": " ++ reason_text reason
finding_text (F.Overlap i j) = codes "slots " ++ decimal i ++ codes " and " ++ decimal j ++ codes ": areas overlap"

-- each finding on a line of its own
abbrev pub finding_line : Finding → List ℕ
finding_line finding = finding_text finding ++ 10 ∷ []

unfoldable pub findings_of : Header → List ℕ
findings_of header = flat_map finding_line (finding_list header)
