-- The memory as a matrix B of p lanes and q columns (RFC 9106, section 3.2, step 2). It is a list of blocks, lane by
-- lane: B[i][j], block j of lane i, is at index i * q + j. A slice is a quarter of the columns, and a segment is the
-- part of a lane that is in a slice (section 3.4).
use Rattle.std.specs.Prelude.{◌<◌, ◌≤◌, ℕ, ◌+◌, ◌*◌, ◌/◌, ◌^◌, Bool, ◌&&◌, ◌==◌}
use Rattle.luks_argon2.specs.declared.layout.Layout.{Layout}
use Rattle.luks_argon2.specs.declared.layout.Segment.{Segment}

-- the memory for t passes, m KiB and p lanes
abbrev pub layout_of : ℕ → ℕ → ℕ → Layout
layout_of passes memory lanes = record { lanes = lanes; segment_len = memory / (4 * lanes); passes = passes }

-- there is a lane, a segment has two blocks at least, and the number of blocks fits in 32 bits
pub record IsLayout (s : Layout) : Type 0 where
  pub some_lanes : 1 ≤ s.lanes
  pub some_blocks : 2 ≤ s.segment_len
  pub fits : s.lanes * (4 * s.segment_len) < 2 ^ 32

-- q, the number of columns
abbrev pub lane_len : Layout → ℕ
lane_len s = 4 * s.segment_len

-- m', the number of blocks
abbrev pub block_count : Layout → ℕ
block_count s = s.lanes * lane_len s

-- the segment that begins a lane in the first pass
abbrev pub is_first_segment : Segment → Bool
is_first_segment g = (g.pass == 0) && (g.slice == 0)

-- the index of block i of a segment
abbrev pub block_index : Layout → Segment → ℕ → ℕ
block_index s g i = g.lane * lane_len s + (g.slice * s.segment_len + i)
