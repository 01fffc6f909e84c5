-- The number of bytes of an image that are read to learn which LUKS2 header it has.
use Rattle.std.specs.Prelude.{◌≡◌, ℕ, ◌+◌, ◌*◌, ◌≤◌, ◌++◌, if◌then◌else◌, Bool, List, [], ◌∷◌, length, max}
use Rattle.luks_format.specs.Choice2.{fits, is_valid, size_at}
use Rattle.luks_format.specs.Header2.{binary_len, sizes}

-- the end of the bytes that are read to check an offset: the end of the binary header or, if that fits, of the whole
-- header. At one of the nine offsets the latter end is twice the offset
unfoldable pub probe_end : List ℕ → ℕ → ℕ
probe_end image offset = max (offset + binary_len) (if fits image offset then offset + size_at image offset else 0)

-- the end of the bytes that are read to check these offsets, up to the first with a valid header
unfoldable pub furthest : (ℕ → Bool) → (ℕ → ℕ) → List ℕ → ℕ
furthest valid probe [] = 0
furthest valid probe (offset ∷ offsets) = max (probe offset) (if valid offset then 0 else furthest valid probe offsets)

-- the end of the bytes that are read of an image that is long enough: both headers if the primary one is valid, and
-- otherwise the image's start and the nine offsets, up to the first of these with a valid header
unfoldable pub probe2_len : List ℕ → ℕ
probe2_len image =
    if is_valid image 0 then 2 * size_at image 0
    else max (probe_end image 0) (furthest (is_valid image) (probe_end image) sizes)

-- how far to load next an image that starts with these bytes: no further than `probe`, the end of the bytes that are
-- read for its header, and past the loaded bytes, unless all those are loaded
pub record IsNextEnd (probe : List ℕ → ℕ) (loaded : List ℕ) (end : ℕ) : Type 0 where
  pub within : (image more : List ℕ) → image ≡ loaded ++ more → end ≤ max (length loaded) (probe image)
  pub enough : end ≤ length loaded → probe loaded ≤ length loaded
