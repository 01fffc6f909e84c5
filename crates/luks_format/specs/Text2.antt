-- The JSON text of a header (LUKS2 On-Disk Format Specification 1.1, section 3).
use Rattle.std.specs.Prelude.{ℕ, ◌+◌, ◌-◌, List}
use Rattle.luks_format.specs.Fields.{at, text_of}
use Rattle.luks_format.specs.Header2.{binary_len}
use Rattle.luks_format.specs.declared.binary_header2.Header2.{Header2}
use Rattle.luks_format.specs.declared.binary_header2.HeaderRole.{HeaderRole}
use Rattle.luks_format.specs.declared.binary_header2.HeaderRole.TheVariants.{Primary, Secondary}

-- the offset of the header of this length, in bytes: a secondary one is right after the primary
abbrev pub header_offset : HeaderRole → ℕ → ℕ
header_offset Primary size = 0
header_offset Secondary size = size

-- the JSON text of a header, in the JSON area after the binary header. It ends before the first zero byte or with that
-- area
unfoldable pub json_text_of : List ℕ → Header2 → List ℕ
json_text_of image header =
    text_of (at (header_offset header.role header.size + binary_len) (header.size - binary_len) image)
