-- How far the search for the first valid LUKS2 header of an image came in its loaded bytes, so that nothing is checked
-- twice.
use Rattle.std.specs.Prelude.{◌≡◌, ℕ, ◌≤◌, List, ◌∷◌, Option, Some, None, take, length}
use Rattle.std.specs.List.{find}
use Rattle.luks_format.specs.Choice2.{is_valid}
use Rattle.luks_format.specs.Header2.{sizes}
use Rattle.luks_format.specs.ReadLen2.{furthest, probe_end}
use Rattle.luks_format.specs.declared.header2_search.Search.{Search}
use Rattle.luks_format.specs.declared.header2_search.Search.TheVariants.{Found, Passed}

-- the offsets at which a header may be, in the order in which they are checked
unfoldable pub offsets : List ℕ
offsets = 0 ∷ sizes

-- the end of the bytes that are read of the image to check these offsets
abbrev pub walk : List ℕ → List ℕ → ℕ
walk image = furthest (is_valid image) (probe_end image)

-- the offsets that were checked
abbrev pub checked : Search → List ℕ
checked (Found offset) = offsets
checked (Passed count) = take count offsets

-- the first of them with a valid header
abbrev pub found : Search → Option ℕ
found (Found offset) = Some offset
found (Passed count) = None

-- the search came so far in these bytes; all that are read to check these offsets are there, so no more bytes change it
pub record IsSearchOf (loaded : List ℕ) (search : Search) : Type 0 where
  pub first : find (is_valid loaded) (checked search) ≡ found search
  pub whole : walk loaded (checked search) ≤ length loaded
