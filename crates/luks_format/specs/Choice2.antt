-- Which LUKS2 header an image has (LUKS2 On-Disk Format Specification 1.1, sections 2.1 and 2.2): the primary one is at
-- the image's start, the secondary one at the offset that is its own length.
use Rattle.std.specs.Prelude.{ℕ, ◌+◌, ◌==◌, ◌&&◌, ◌||◌, not, nat_le, nat_lt, if◌then◌else◌, Bool, List, [], ◌∷◌, Option}
use Rattle.std.specs.Prelude.{Some, None, bytes_eq, false, is_some, length, option_and_then, option_map}
use Rattle.std.specs.List.{find, list_any}
use Rattle.luks_format.specs.Fields.{at, text_of}
use Rattle.luks_format.specs.Checksum2.{checksum_matches}
use Rattle.luks_format.specs.Header2.{binary_len, checksum_hash_in, hdr_offset_in, sequence_in, size_in, sizes}
use Rattle.luks_format.specs.declared.binary_header2.PairFinding.{PairFinding}
use Rattle.luks_format.specs.declared.binary_header2.PairFinding.TheVariants.{PrimaryNotValid, SecondaryNotValid}
use Rattle.luks_format.specs.declared.binary_header2.PairFinding.TheVariants.{SequencesDiffer}
use Rattle.luks_format.specs.declared.binary_header2.Header2.{Header2}
use Rattle.luks_format.specs.declared.binary_header2.HeaderRole.{HeaderRole}
use Rattle.luks_format.specs.declared.binary_header2.HeaderRole.TheVariants.{Primary, Secondary}

-- the first bytes of a header at this offset: LUKS at the image's start and SKUL elsewhere, BA BE, and the version 2 in
-- two bytes
unfoldable pub beginning_at : ℕ → List ℕ
beginning_at offset =
    if offset == 0 then 0x4c ∷ 0x55 ∷ 0x4b ∷ 0x53 ∷ 0xba ∷ 0xbe ∷ 0x00 ∷ 0x02 ∷ []
    else 0x53 ∷ 0x4b ∷ 0x55 ∷ 0x4c ∷ 0xba ∷ 0xbe ∷ 0x00 ∷ 0x02 ∷ []

-- these 4096 bytes are a binary header for this offset: they begin with the magic bytes and version for this offset,
-- and state one of the nine lengths, this offset and a known hash function; a secondary header's length and offset are
-- equal
unfoldable pub is_binary_of : ℕ → List ℕ → Bool
is_binary_of offset binary =
    bytes_eq (at 0 8 binary) (beginning_at offset)
    && list_any (λ size. size == size_in binary) sizes
    && (offset == 0 || size_in binary == offset)
    && hdr_offset_in binary == offset
    && is_some (checksum_hash_in binary)

-- the 4096 bytes at an offset
abbrev pub binary_at : List ℕ → ℕ → List ℕ
binary_at image offset = at offset binary_len image

-- the length of the header at an offset, with its JSON area
abbrev pub size_at : List ℕ → ℕ → ℕ
size_at image offset = size_in (binary_at image offset)

-- a binary header for this offset is in the image at this offset
unfoldable pub fits : List ℕ → ℕ → Bool
fits image offset = nat_le (offset + binary_len) (length image) && is_binary_of offset (binary_at image offset)

-- a valid header is in the image at this offset: it fits, all of it is there, and its checksum matches
unfoldable pub is_valid : List ℕ → ℕ → Bool
is_valid image offset =
    fits image offset
    && nat_le (offset + size_at image offset) (length image)
    && checksum_matches (at offset (size_at image offset) image)

-- what is wrong with the two headers of an image that has a valid one
unfoldable pub pair_finding_of : List ℕ → Option PairFinding
pair_finding_of image =
    if not (is_valid image 0) then Some PrimaryNotValid
    else if not (is_valid image (size_at image 0)) then Some SecondaryNotValid
    else if sequence_in (binary_at image 0) == sequence_in (binary_at image (size_at image 0)) then None
    else Some SequencesDiffer

-- the header that the 4096 bytes at an offset encode, if the hash function is known. It is read as an attached one
unfoldable pub header2_at : List ℕ → HeaderRole → ℕ → Option Header2
header2_at image role offset =
    let binary = binary_at image offset in
    option_map (λ hash. record {
      role = role;
      size = size_in binary;
      sequence = sequence_in binary;
      label = text_of (at 24 48 binary);
      hash = hash;
      salt = at 104 64 binary;
      uuid = text_of (at 168 40 binary);
      subsystem = text_of (at 208 48 binary);
      finding = pair_finding_of image;
      detached = false;
    }) (checksum_hash_in binary)

-- the LUKS2 header of an image, if it has one. If the primary one is not valid, it is the header at the lowest of the
-- nine offsets that has a valid one. Otherwise it is the secondary one right after the primary, if that is valid with a
-- higher sequence number, and the primary if not
unfoldable pub chosen2_of : List ℕ → Option Header2
chosen2_of image =
    let second = size_at image 0 in
    if not (is_valid image 0) then option_and_then (header2_at image Secondary) (find (is_valid image) sizes)
    else if is_valid image second && nat_lt (sequence_in (binary_at image 0)) (sequence_in (binary_at image second))
    then header2_at image Secondary second
    else header2_at image Primary 0
