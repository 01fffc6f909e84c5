-- At which places of an image headers are: the multiples of 512 bytes at which the rest of the image has a header. So
-- the place of a volume whose primary header is wiped is where that was, as its secondary header is found from there.
use Rattle.std.specs.Prelude.{ℕ, zero, suc, ◌+◌, ◌*◌, ◌/◌, ◌^◌, ◌++◌, List, []}
use Rattle.std.specs.Prelude.{◌∷◌, Option, Some, None, Result, Ok, Err, drop}
use Rattle.std.specs.Prelude.{length, min}
use Rattle.luks_format.specs.declared.fault.HeaderFault.{HeaderFault}
use Rattle.luks_header.specs.Header.{header_of}
use Rattle.luks_header.specs.declared.header.Header.{Header}

-- the header of the rest of an image from this offset on, or why there is none
abbrev pub header_at : List ℕ → ℕ → Result Header HeaderFault
header_at image offset = header_of (drop offset image)

-- a header, if there is one
abbrev pub found_in : Result Header HeaderFault → Option Header
found_in (Ok header) = Some header
found_in (Err fault) = None

-- an offset as a list, if there is a header
abbrev pub place_if : ℕ → Option Header → List ℕ
place_if offset (Some header) = offset ∷ []
place_if offset None = []

-- the places in the first n sectors of 512 bytes, ascending
unfoldable pub places_below : List ℕ → ℕ → List ℕ
places_below image zero = []
places_below image (suc n) = places_below image n ++ place_if (512 * n) (found_in (header_at image (512 * n)))

-- the number of sectors of an image. The last one may be shorter
abbrev pub sectors_in : List ℕ → ℕ
sectors_in image = (length image + 511) / 512

-- how many sectors are searched at most: those of 2^63 bytes. No file is longer
abbrev pub max_searched_sectors : ℕ
max_searched_sectors = 2 ^ 54

-- the places of an image in its first 2^63 bytes, ascending: however long it is, it is searched so far
abbrev pub places_of : List ℕ → List ℕ
places_of image = places_below image (min (sectors_in image) max_searched_sectors)
