-- The order in which the blocks are filled (RFC 9106, section 3.2, steps 5 and 6, and section 3.4): pass by pass,
-- slice by slice, lane by lane.
use Rattle.std.specs.Prelude.{ℕ, zero, suc, ◌==◌, not, List, [], if◌then◌else◌, nat_lt, slice_index_or, slice_set}
use Rattle.luks_argon2.specs.declared.layout.Layout.{Layout}
use Rattle.luks_argon2.specs.declared.layout.Segment.{Segment}
use Rattle.luks_argon2.specs.declared.variant.Variant.{Variant}
use Rattle.luks_argon2.specs.Addressing.{previous_index, pseudorandom}
use Rattle.luks_argon2.specs.Compression.{new_block}
use Rattle.luks_argon2.specs.Layout.{block_index, is_first_segment}
use Rattle.luks_argon2.specs.Reference.{reference_index}

-- the memory after block i of a segment: G of the previous and the reference block, from the second pass on with the
-- XOR of the block that it replaces
unfoldable pub block_filled : Variant → Layout → Segment → List (List (List ℕ)) → ℕ → List (List (List ℕ))
block_filled v s g memory i =
    let at = block_index s g i in
    let reference = reference_index s g i (pseudorandom v s g memory i) in
    slice_set memory at (new_block (not (g.pass == 0)) (slice_index_or memory at [])
    (slice_index_or memory (previous_index s g i) []) (slice_index_or memory reference []))

-- the first block of a segment that is filled: the first two of each lane were made of H_0 (steps 3 and 4)
abbrev pub first_filled : Segment → ℕ
first_filled g = if is_first_segment g then 2 else 0

-- the memory after the first n blocks of a segment
unfoldable pub segment_filled : Variant → Layout → Segment → List (List (List ℕ)) → ℕ → List (List (List ℕ))
segment_filled v s g memory zero = memory
segment_filled v s g memory (suc n) =
    let before = segment_filled v s g memory n in
    if nat_lt n (first_filled g) then before else block_filled v s g before n

-- the memory after the segments of a slice in the first n lanes
unfoldable pub lanes_filled : Variant → Layout → ℕ → ℕ → List (List (List ℕ)) → ℕ → List (List (List ℕ))
lanes_filled v s pass slice memory zero = memory
lanes_filled v s pass slice memory (suc n) =
    segment_filled v s (record { pass = pass; slice = slice; lane = n }) (lanes_filled v s pass slice memory n)
    s.segment_len

-- the memory after the first n slices of a pass
unfoldable pub slices_filled : Variant → Layout → ℕ → List (List (List ℕ)) → ℕ → List (List (List ℕ))
slices_filled v s pass memory zero = memory
slices_filled v s pass memory (suc n) = lanes_filled v s pass n (slices_filled v s pass memory n) s.lanes

-- the memory after the first n passes
unfoldable pub passes_filled : Variant → Layout → List (List (List ℕ)) → ℕ → List (List (List ℕ))
passes_filled v s memory zero = memory
passes_filled v s memory (suc n) = slices_filled v s n (passes_filled v s memory n) 4
