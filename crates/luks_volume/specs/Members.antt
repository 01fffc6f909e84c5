-- Members of JSON objects, made of borrowed parts.
use Rattle.std.specs.Prelude.{ℕ, List, [], ◌∷◌}
use Rattle.std.specs.Borrow.{Bor}
use Rattle.serde_json.specs.Data.{Data, Members, number, put, string, unsigned}
use Rattle.luks_volume.specs.Layout2.{base64_value, decimal_value, encryption_value}
use Rattle.luks_volume.specs.declared.luks2.members.Content.{Content}
use Rattle.luks_volume.specs.declared.luks2.members.Content.TheVariants.{Text, Number, Decimal, Bytes, Encryption}

-- the JSON value of a member
abbrev pub data_of : Content → Data
data_of (Text text) = string text.now
data_of (Number n) = number (unsigned n)
data_of (Decimal n) = decimal_value n
data_of (Bytes bytes) = base64_value bytes.now
data_of (Encryption mode) = encryption_value mode

-- an object's members, with these added
abbrev pub with_members : List (Bor (List ℕ) × Content) → Members → Members
with_members [] old = old
with_members (m ∷ ms) old = with_members ms (put m.0.now (data_of m.1) old)
