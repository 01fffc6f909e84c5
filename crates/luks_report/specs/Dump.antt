-- The texts of a header, by its version.
use Rattle.std.specs.Prelude.{ℕ, List}
use Rattle.luks_header.specs.declared.header.Header.{Header}
use Rattle.luks_header.specs.declared.header.Header.TheVariants.{V1, V2}
use Rattle.luks_report.specs.Dump1.{dump1_of, uuid1_line}
use Rattle.luks_report.specs.Dump2.{dump2_of, uuid2_line}

-- the text that `luksUUID` prints
abbrev pub uuid_of : Header → List ℕ
uuid_of (V1 header) = uuid1_line header
uuid_of (V2 header tree) = uuid2_line header

-- the text that `luksDump` prints
abbrev pub dump_of : Header → List ℕ
dump_of (V1 header) = dump1_of header
dump_of (V2 header tree) = dump2_of header tree
