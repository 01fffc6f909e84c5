-- The lines that are printed: an object as JSON, or its members in columns with tabs between them.
use Rattle.std.specs.Prelude.{ℕ, ◌++◌, ◌==◌, List, [], ◌∷◌, Option, Some, None, codes, flat_map}
use Rattle.std.specs.List.{slice_split}
use Rattle.json.specs.Print.{escape}
use Rattle.luks_audit.specs.Marks.{marks_escaped}
use Rattle.luks_audit.specs.Table.{program_fields}
use Rattle.luks_audit.specs.Tree.{empty_object, with_fields}
use Rattle.luks_audit.specs.declared.line.Format.{Format}
use Rattle.luks_audit.specs.declared.line.Format.TheVariants.{Json, Tsv}
use Rattle.serde_json.specs.Data.{Data, null, string, boolean, number, array, object}
use Rattle.serde_json.specs.Find.{get}
use Rattle.serde_json.specs.Written.{compact_text}

-- the names of the columns after the first one, which is the file, with tabs between them
unfoldable pub columns : List ℕ
columns =
    codes "offset\terror\tversion\tuuid\tlabel\tsubsystem\theader\tother_header\tcipher\tkey_bytes\tsector_size\t"
    ++ codes "segment_offset\tsegment_size\trequirements\tslots\tdigests\ttokens\tfindings\tweak\tseqid\theader_size\t"
    ++ codes "checksum_hash\tsalt\tiv_tweak\tprogram_version\tpolicy\tunsupported\tsegment_type\tsegment_flags\t"
    ++ codes "integrity\tflags"

-- the same names, one by one
abbrev pub column_names : List (List ℕ)
column_names = slice_split (λ (byte : ℕ). byte == 9) columns

-- what a member has in its column: nothing if it is null, a text as it stands in JSON but without quotation marks, and
-- any other value as JSON. JSON escapes tabs and newlines
unfoldable pub cell_text : Data → List ℕ
cell_text null = []
cell_text (string text) = escape text
cell_text (boolean b) = compact_text (boolean b)
cell_text (number n) = compact_text (number n)
cell_text (array values) = compact_text (array values)
cell_text (object members) = compact_text (object members)

-- the column of a member that may be missing
abbrev pub cell_in : Option Data → List ℕ
cell_in None = []
cell_in (Some value) = cell_text value

unfoldable pub column_of : Data → List ℕ → List ℕ
column_of value name = cell_in (get name value)

-- a column after a tab
unfoldable pub tabbed_of : Data → List ℕ → List ℕ
tabbed_of value name = 9 ∷ column_of value name

-- the columns of an object, but for the file
unfoldable pub cells_of : Data → List ℕ
cells_of value = flat_map (tabbed_of value) column_names

-- the line of an object, in which no character is one that a terminal obeys
unfoldable pub line_text : Format → Data → List ℕ
line_text Json value = marks_escaped (compact_text value) ++ 10 ∷ []
line_text Tsv value = marks_escaped (column_of value (codes "file") ++ cells_of value) ++ 10 ∷ []

-- the line before all others: the names of the columns
unfoldable pub head_of : Format → List ℕ
head_of Json = []
head_of Tsv = codes "file\t" ++ columns ++ 10 ∷ []

-- the object of an image without a header, or of one that could not be read
unfoldable pub error_value : List ℕ → List ℕ → Data
error_value file error =
    with_fields ((codes "file", string file) ∷ (codes "error", string error) ∷ [])
    (with_fields program_fields empty_object)
