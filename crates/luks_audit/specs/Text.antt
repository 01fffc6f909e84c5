-- Texts and bytes of a header, and how they are printed.
use Rattle.std.specs.Prelude.{ℕ, List, Option, option_map, unwrap_or}
use Rattle.hex.specs.Hex.{encode_lower}
use Rattle.luks_report.specs.DumpLine.{escaped}
use Rattle.luks_audit.specs.declared.text.Text.{Text}
use Rattle.luks_audit.specs.declared.text.Text.TheVariants.{Fixed, Unicode, Binary}
use Rattle.serde_json.specs.Data.{Data, null, string}

abbrev pub text_bytes : Text → List ℕ
text_bytes (Fixed bytes) = bytes
text_bytes (Unicode bytes) = bytes
text_bytes (Binary bytes) = bytes

-- as it is printed: the text in a field of a binary header need not be UTF-8, and is escaped; bytes are hexadecimal
-- digits
abbrev pub text_value : Text → Data
text_value (Fixed bytes) = string (escaped bytes)
text_value (Unicode bytes) = string bytes
text_value (Binary bytes) = string (encode_lower bytes)

-- the same, or null
abbrev pub optional_text : Option Text → Data
optional_text text = unwrap_or (option_map text_value text) null
