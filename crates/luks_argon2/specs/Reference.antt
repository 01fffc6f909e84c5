-- The reference block, which J_1 and J_2 choose (RFC 9106, section 3.4.2).
use Rattle.std.specs.Prelude.{ℕ, ◌+◌, ◌-◌, ◌*◌, ◌/◌, ◌%◌, ◌^◌, ◌==◌, if◌then◌else◌}
use Rattle.luks_argon2.specs.declared.layout.Layout.{Layout}
use Rattle.luks_argon2.specs.declared.layout.Segment.{Segment}
use Rattle.luks_argon2.specs.Layout.{is_first_segment, lane_len}

-- l, the lane of the reference block: J_2 mod p, but the current lane in the first segment of the first pass
abbrev pub reference_lane : Layout → Segment → ℕ → ℕ
reference_lane s g word = if is_first_segment g then g.lane else (word / 2 ^ 32) % s.lanes

-- how many blocks of a lane are in the last segments that are finished: those before this slice in the first pass, and
-- otherwise three
abbrev pub finished_blocks : Layout → Segment → ℕ
finished_blocks s g = if g.pass == 0 then g.slice * s.segment_len else 3 * s.segment_len

-- |W|, for block i of a segment and lane l. In the current lane, W has the finished segments and the blocks of this one
-- but for the previous block. In another lane it has the finished segments, without their last block if i is 0.
abbrev pub window_size : Layout → Segment → ℕ → ℕ → ℕ
window_size s g i l =
    if l == g.lane then finished_blocks s g + i - 1
    else finished_blocks s g - (if i == 0 then 1 else 0)

-- the column of the first block in W, the oldest: that after this slice, but 0 in the first pass
abbrev pub window_start : Layout → Segment → ℕ
window_start s g = if g.pass == 0 then 0 else (g.slice + 1) % 4 * s.segment_len

-- zz, an index in W: x = J_1 ^ 2 / 2 ^ 32, y = |W| * x / 2 ^ 32, zz = |W| - 1 - y
abbrev pub window_index : ℕ → ℕ → ℕ
window_index size word =
    let j1 = word % 2 ^ 32 in
    size - 1 - size * (j1 * j1 / 2 ^ 32) / 2 ^ 32

-- the index of B[l][z], the reference block for block i of a segment
unfoldable pub reference_index : Layout → Segment → ℕ → ℕ → ℕ
reference_index s g i word =
    let l = reference_lane s g word in
    l * lane_len s + (window_start s g + window_index (window_size s g i l) word) % lane_len s
