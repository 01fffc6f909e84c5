-- Segments, made from the parts that were read.
use Rattle.std.specs.Prelude.{ℕ, ◌+◌, ◌*◌, ◌/◌, ◌%◌, ◌^◌, Option, Some, None, Result, Err, ok_or, option_map}
use Rattle.std.specs.Option.{option_map_or}
use Rattle.luks_cipher.specs.declared.mode.Mode.{Mode}
use Rattle.luks_format.specs.Rule.{evidence_if}
use Rattle.luks_format.specs.SectorSize.{bytes_of, has_whole_sectors}
use Rattle.luks_format.specs.declared.refusal.SegmentFault.{SegmentFault}
use Rattle.luks_format.specs.declared.refusal.SegmentFault.TheVariants.{Member}
use Rattle.luks_format.specs.declared.sector_size.SectorSize.{SectorSize}
use Rattle.luks_format.specs.declared.segment.Segment.{Segment}

-- the segment with these parts that were read: its offset, length, first unit number, sector size and mode. There is
-- one if each is present, and the length is a multiple of the sectors' length if it is fixed
abbrev pub segment_from : Option ℕ → Option (Option ℕ) → Option ℕ → Option SectorSize → Option Mode → Option Segment
segment_from (Some offset) (Some size) (Some iv_tweak) (Some sector_size) (Some mode) =
    option_map (λ is. record {
      offset = offset;
      size = size;
      iv_tweak = iv_tweak;
      sector_size = sector_size;
      mode = mode;
      whole_sectors = is;
    }) (evidence_if (has_whole_sectors size sector_size))
segment_from _ _ _ _ _ = None

-- the payload's segment, or its fault. A segment without a fault has all its parts, and they are in range (`made1`,
-- `made2`), so `Member` is never added here
abbrev pub refused_or : Option SegmentFault → Option Segment → Result Segment SegmentFault
refused_or fault segment = option_map_or Err fault (ok_or segment Member)

-- the unit number of sector i: unit numbers count in steps of 512 bytes, whatever the sector's length, and wrap at 2^64
abbrev pub unit_number : Segment → ℕ → ℕ
unit_number segment i = (segment.iv_tweak + i * (bytes_of segment.sector_size / 512)) % 2 ^ 64
