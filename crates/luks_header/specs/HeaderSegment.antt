-- Where the payload of a volume is, or why it cannot be read.
use Rattle.std.specs.Prelude.{Result}
use Rattle.luks_format.specs.declared.refusal.SegmentFault.{SegmentFault}
use Rattle.luks_format.specs.declared.segment.Segment.{Segment}
use Rattle.luks_format.specs.Segment1.{segment1_of}
use Rattle.luks2_metadata.specs.Segment2.{segment2_of}
use Rattle.luks_header.specs.Header.{bounds2_of}
use Rattle.luks_header.specs.declared.header.Header.{Header}
use Rattle.luks_header.specs.declared.header.Header.TheVariants.{V1, V2}

-- the segment of a header, or its first fault
unfoldable pub segment_of : Header → Result Segment SegmentFault
segment_of (V1 header) = segment1_of header
segment_of (V2 header tree) = segment2_of tree (bounds2_of header)
