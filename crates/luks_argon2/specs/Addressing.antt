-- The pseudorandom numbers J_1 and J_2 of each block (RFC 9106, section 3.4.1).
use Rattle.std.specs.Prelude.{◌≡◌, ◌<◌, IsTrue, ℕ, ◌+◌, ◌-◌, ◌*◌, ◌/◌, ◌%◌, Bool, true, ◌&&◌, ◌==◌, List, [], ◌∷◌}
use Rattle.std.specs.Prelude.{if◌then◌else◌, nat_lt, replicate, slice_index, slice_index_or}
use Rattle.luks_argon2.specs.declared.layout.Layout.{Layout}
use Rattle.luks_argon2.specs.declared.layout.Segment.{Segment}
use Rattle.luks_argon2.specs.declared.variant.Variant.{Variant}
use Rattle.luks_argon2.specs.declared.variant.Variant.TheVariants.{Argon2i, Argon2id}
use Rattle.luks_argon2.specs.Block.{block_row, zero_block}
use Rattle.luks_argon2.specs.Compression.{compressed}
use Rattle.luks_argon2.specs.Layout.{block_count, lane_len}

-- y, the number of the variant (3.1)
abbrev pub variant_number : Variant → ℕ
variant_number Argon2i = 1
variant_number Argon2id = 2

-- the addresses do not depend on the password: in all segments of Argon2i (3.4.1.2), and in those of the first two
-- slices of the first pass of Argon2id (3.4.1.3)
abbrev pub is_data_independent : Variant → Segment → Bool
is_data_independent Argon2i g = true
is_data_independent Argon2id g = (g.pass == 0) && nat_lt g.slice 2

-- Z and the counter, as a block: the pass r, the lane l, the slice sl, m', t, y, the counter from 1 on, and zeros
-- (3.4.1.2)
abbrev pub address_input : Variant → Layout → Segment → ℕ → List (List ℕ)
address_input v s g counter =
    (g.pass ∷ g.lane ∷ g.slice ∷ block_count s ∷ s.passes ∷ variant_number v ∷ counter ∷ replicate 9 0)
    ∷ replicate 7 (replicate 16 0)

-- G(ZERO, G(ZERO, Z || counter || ZERO)): J_1 and J_2 for 128 blocks (3.4.1.2)
unfoldable pub address_block : Variant → Layout → Segment → ℕ → List (List ℕ)
address_block v s g counter = compressed zero_block (compressed zero_block (address_input v s g counter))

-- the index of the block before block i of a segment, which is the lane's last one before its first
abbrev pub previous_index : Layout → Segment → ℕ → ℕ
previous_index s g i =
    let column = g.slice * s.segment_len + i in
    g.lane * lane_len s + ((if column == 0 then lane_len s else column) - 1)

-- J_1 and J_2 for block i of a segment, as the low and the high half of one word: a word of an address block, or the
-- first word of the previous block (3.4.1.1)
unfoldable pub pseudorandom : Variant → Layout → Segment → List (List (List ℕ)) → ℕ → ℕ
pseudorandom v s g memory i =
    if is_data_independent v g then slice_index (block_row (address_block v s g (i / 128 + 1)) (i % 128 / 16)) (i % 16)
    else slice_index (block_row (slice_index_or memory (previous_index s g i) []) 0) 0

-- these are the addresses for block i of a segment, unless they depend on the password or block i is the first that
-- needs them
abbrev pub HasAddresses : Variant → Layout → Segment → ℕ → List (List ℕ) → Type 0
HasAddresses v s g i words =
    IsTrue (is_data_independent v g) → 0 < i % 128 → words ≡ address_block v s g (i / 128 + 1)
