-- Which header an image has, and how many of its bytes are read for it.
use Rattle.std.specs.Prelude.{◌≡◌, ◌⊎◌, ℕ, Bool, true, false, List, Option, Some, None, Result, Ok, Err, length, min}
use Rattle.std.specs.Prelude.{◌*◌, nat_lt, if◌then◌else◌, ok_or, option_map}
use Rattle.luks_io.specs.Devices.{ConsumedExactly, ConsumedFewer, ConsumedAtMost, counted}
use Rattle.luks_format.specs.Fields.{at}
use Rattle.luks_format.specs.Header1.{header1_len, header1_of, is_luks1}
use Rattle.luks_format.specs.Choice2.{chosen2_of}
use Rattle.luks_format.specs.ReadLen2.{probe2_len}
use Rattle.luks_format.specs.Text2.{json_text_of}
use Rattle.luks_format.specs.declared.binary_header2.Header2.{Header2}
use Rattle.luks2_json.specs.Tree.{tree_of}
use Rattle.luks2_metadata.specs.declared.bounds.Bounds.{Bounds}
use Rattle.luks_header.specs.declared.header.Header.{Header}
use Rattle.luks_header.specs.declared.header.Header.TheVariants.{V1, V2}
use Rattle.luks_format.specs.declared.fault.HeaderFault.{HeaderFault}
use Rattle.luks_format.specs.declared.fault.HeaderFault.TheVariants.{NotLuks, Cut, Json, Read, Memory}

-- the header is detached: it is in another file than the payload
unfoldable pub is_detached : Header → Bool
is_detached (V1 header) = header.detached
is_detached (V2 header tree) = header.detached

-- the same header, as a detached one
unfoldable pub detached_of : Header → Header
detached_of (V1 header) = V1 (record header { detached = true })
detached_of (V2 header tree) = V2 (record header { detached = true }) tree

-- the bounds that a LUKS2 header sets for key material and for the payload: where the two headers end, which have the
-- same length, and whether they are detached
unfoldable pub bounds2_of : Header2 → Bounds
bounds2_of header = record { end = 2 * header.size; detached = header.detached }

-- the LUKS2 header of these bytes, if they have a binary header and its JSON text can be read
abbrev pub with_text : List ℕ → Option Header2 → Result Header HeaderFault
with_text image (Some header) = ok_or (option_map (V2 header) (tree_of (json_text_of image header))) Json
with_text image None = Err NotLuks

-- the header of an image, or why there is none
unfoldable pub header_of : List ℕ → Result Header HeaderFault
header_of image = if is_luks1 image
    then (if nat_lt (length image) header1_len then Err Cut else Ok (V1 (header1_of (at 0 header1_len image))))
    else with_text image (chosen2_of image)

-- the number of bytes of the image that are read to learn which header it has
unfoldable pub header_read_len : List ℕ → ℕ
header_read_len image = min (if is_luks1 image then header1_len else probe2_len image) (length image)

-- how far into an image the search for its header goes; the image may end before
unfoldable pub probe_len : List ℕ → ℕ
probe_len image = if is_luks1 image then header1_len else probe2_len image

-- the image ends before the search for its header does
abbrev pub falls_short : List ℕ → Bool
falls_short image = nat_lt (length image) (probe_len image)

-- the bytes that are read for the header were consumed, and EOF was hit on the image if the image falls short
abbrev pub ConsumedHeaderLen : List ℕ → Option (List ℕ) → ℕ → ℕ → Type 0
ConsumedHeaderLen image left ends ends' = ConsumedExactly image left (header_read_len image)
    × (ends' ≡ counted (falls_short image) ends)

-- some of the image's bytes were consumed, none if it is LUKS1, and EOF was not hit: the search was not finished
abbrev pub ConsumedBeforeProbe : List ℕ → Option (List ℕ) → ℕ → ℕ → Type 0
ConsumedBeforeProbe image left ends ends' = ConsumedFewer image left (probe_len image) × (ends' ≡ ends)
    × (is_luks1 image ≡ true → ConsumedExactly image left 0)

-- the image has a binary LUKS2 header
abbrev pub HasHeader2 : List ℕ → Type 0
HasHeader2 image = (header : Header2) × (is_luks1 image ≡ false) × (chosen2_of image ≡ Some header)

-- no header was read, for this reason: a read failed, at any point; memory ran out, either during the search or, with a
-- binary LUKS2 header, for the tree of its JSON text; or the image has none, which is any other fault
abbrev pub ReadsNoHeader : List ℕ → Option (List ℕ) → ℕ → ℕ → HeaderFault → Type 0
ReadsNoHeader image left ends ends' Read = ConsumedAtMost image left (header_read_len image) × (ends' ≡ ends)
ReadsNoHeader image left ends ends' Memory =
    ConsumedBeforeProbe image left ends ends' ⊎ (HasHeader2 image × ConsumedHeaderLen image left ends ends')
ReadsNoHeader image left ends ends' fault = (header_of image ≡ Err fault) × ConsumedHeaderLen image left ends ends'

-- an image with these bytes has no header for this reason, or memory ran out for the tree of its JSON text
abbrev pub HasNoHeader : List ℕ → HeaderFault → Type 0
HasNoHeader image Read = ⊥
HasNoHeader image Memory = HasHeader2 image
HasNoHeader image fault = header_of image ≡ Err fault
