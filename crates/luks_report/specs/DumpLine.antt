-- Texts of a header as they are printed, and their lines. All bytes but visible ASCII and spaces are escaped, and
-- so is the backslash.
use Rattle.std.specs.Prelude.{ℕ, ◌&&◌, ◌∷◌, ◌++◌, [], List, codes, flat_map, if◌then◌else◌, nat_le, not, Bool, ◌==◌}
use Rattle.hex.specs.Hex.{encode_lower}

-- the byte prints as itself: it is visible ASCII or a space, and not a backslash
abbrev pub is_plain : ℕ → Bool
is_plain byte = nat_le 0x20 byte && (nat_le byte 0x7e && not (byte == 0x5c))

-- a byte of a header's text: itself, or a backslash, an x and two hexadecimal digits
unfoldable pub escaped_byte : ℕ → List ℕ
escaped_byte byte = if is_plain byte then byte ∷ [] else 0x5c ∷ 0x78 ∷ encode_lower (byte ∷ [])

-- a text of a header as it is printed
unfoldable pub escaped : List ℕ → List ℕ
escaped text = flat_map escaped_byte text

-- a line: a name, a colon, a space, and a value
unfoldable pub field : List ℕ → List ℕ → List ℕ
field name value = name ++ codes ": " ++ value ++ 10 ∷ []
