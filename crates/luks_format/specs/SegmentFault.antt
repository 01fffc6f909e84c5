-- Why a segment is refused, as dumps and messages state it.
use Rattle.std.specs.Prelude.{ℕ, List, codes}
use Rattle.luks_format.specs.declared.refusal.SegmentFault.{SegmentFault}
use Rattle.luks_format.specs.declared.refusal.SegmentFault.TheVariants.{Requirement, Segments, Member, Kind, Integrity}
use Rattle.luks_format.specs.declared.refusal.SegmentFault.TheVariants.{Encryption, Hash, KeyBytes, SectorSize, Offset}
use Rattle.luks_format.specs.declared.refusal.SegmentFault.TheVariants.{Size}

-- the text of a fault
abbrev pub fault_text : SegmentFault → List ℕ
fault_text Requirement = codes "requirement"
fault_text Segments = codes "segments"
fault_text Member = codes "member"
fault_text Kind = codes "type"
fault_text Integrity = codes "integrity"
fault_text Encryption = codes "encryption"
fault_text Hash = codes "hash"
fault_text KeyBytes = codes "key bytes"
fault_text SectorSize = codes "sector size"
fault_text Offset = codes "offset"
fault_text Size = codes "size"
