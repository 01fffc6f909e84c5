-- Rules for both formats. They are about numbers: a limit and a payload's start, which may be missing, and the size of
-- an area.
use Rattle.std.specs.Prelude.{◌≡◌, ℕ, ◌+◌, ◌*◌, ◌/◌, ◌==◌, ◌&&◌, ◌||◌, not, nat_lt, Bool, true, false, Option}
use Rattle.std.specs.Prelude.{Some, None, refl}
use Rattle.std.specs.Option.{option_map_or}
use Rattle.luks_format.specs.Area.{max_loaded_len}

-- the largest number of slots in a header; they are numbered from 0
abbrev pub max_slots : ℕ
max_slots = 32

-- the number is above the limit, if there is one
abbrev pub exceeds : Option ℕ → ℕ → Bool
exceeds limit n = option_map_or (λ most. nat_lt most n) limit false

-- this number of iterations is refused: 0, more than fits into four bytes, or above the limit
unfoldable pub iterations_out_of_range : Option ℕ → ℕ → Bool
iterations_out_of_range limit iterations = iterations == 0 || nat_lt 4294967295 iterations || exceeds limit iterations

-- the number of stripes is not 1 to 4000
unfoldable pub stripes_out_of_range : ℕ → Bool
stripes_out_of_range stripes = stripes == 0 || nat_lt 4000 stripes

-- the number of bytes of a slot's key material: one key for each stripe, rounded up to whole sectors of 512 bytes
unfoldable pub key_material_len : ℕ → ℕ → ℕ
key_material_len key_bytes stripes = (key_bytes * stripes + 511) / 512 * 512

-- key material from `offset` on does not fit: it starts below `start`, its area has fewer bytes than it needs, or it
-- ends past the payload's start, if that is known, or past the largest number of bytes that are loaded of an image
unfoldable pub area_out_of_range : ℕ → Option ℕ → ℕ → ℕ → ℕ → Bool
area_out_of_range start payload offset size material_len =
    nat_lt offset start || nat_lt size material_len
    || exceeds payload (offset + material_len) || nat_lt max_loaded_len (offset + material_len)

-- a digest with this number of iterations and this length can be used: the iterations are in range without a limit, and
-- it has 20 to 64 bytes
unfoldable pub is_digest : ℕ → ℕ → Bool
is_digest iterations len = not (iterations_out_of_range None iterations) && not (nat_lt len 20) && not (nat_lt 64 len)

-- evidence that a test holds, for values that are made only if it does
abbrev pub evidence_if : (test : Bool) → Option (test ≡ true)
evidence_if true = Some refl
evidence_if false = None
