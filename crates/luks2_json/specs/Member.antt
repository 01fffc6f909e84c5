-- The types of members (LUKS2 On-Disk Format Specification 1.1, section 3): each definition finds the value that an
-- object has under a name, if it is present and of that type. JSON's null is a value like others: a member that is null
-- is present, and is neither a number nor a string nor an object.
use Rattle.std.specs.Prelude.{ℕ, ◌&&◌, ◌^◌, Bool, false, List, Option, Some, None, bytes_eq, codes, is_some, length}
use Rattle.std.specs.Prelude.{nat_le, nat_lt, ◌==◌, ◌||◌, not, if◌then◌else◌, option_and_then, option_map, slice_index}
use Rattle.std.specs.Prelude.{unwrap_or, drop, take}
use Rattle.std.specs.Char.{is_ascii_alphanumeric, is_ascii_digit}
use Rattle.std.specs.List.{list_all}
use Rattle.std.specs.Option.{option_map_or}
use Rattle.std.specs.Str.Parse.{digits_value}
use Rattle.luks_cipher.specs.Sector.{is_key_length, is_mode_key_length, mode_named}
use Rattle.luks_cipher.specs.declared.mode.Mode.{Mode}
use Rattle.luks_kdf.specs.Hash.{hash_named}
use Rattle.luks_kdf.specs.declared.hash.Hash.{Hash}
use Rattle.base64.specs.Engines.{standard}
use Rattle.base64.specs.GeneralPurpose.{decoded_of}
use Rattle.serde_json.specs.Data.{Data}
use Rattle.serde_json.specs.Find.{as_number, as_str, as_u64, get}

-- an integer: a JSON number without sign, fraction or exponent, below 2^64
unfoldable pub integer_member : List ℕ → Data → Option ℕ
integer_member name owner = option_and_then as_u64 (option_and_then as_number (get name owner))

-- a string
unfoldable pub string_member : List ℕ → Data → Option (List ℕ)
string_member name owner = option_and_then as_str (get name owner)

-- the string is a number below 2^64 in 1 to 20 decimal digits; leading zeros are allowed
abbrev pub is_decimal : List ℕ → Bool
is_decimal digits = nat_lt 0 (length digits) && nat_le (length digits) 20 && list_all is_ascii_digit digits
    && nat_lt (digits_value 10 digits) (2 ^ 64)

-- the number that such a string represents
unfoldable pub decimal_of : List ℕ → Option ℕ
decimal_of digits = if is_decimal digits then Some (digits_value 10 digits) else None

-- a number in decimal digits: JSON has no numbers of 64 bits, so the format writes them as strings
unfoldable pub decimal_member : List ℕ → Data → Option ℕ
decimal_member name owner = option_and_then decimal_of (string_member name owner)

-- bytes, in the standard alphabet of base64 and with its padding (RFC 4648, section 4)
unfoldable pub base64_member : List ℕ → Data → Option (List ℕ)
base64_member name owner = option_and_then (decoded_of standard) (string_member name owner)

-- the string under this name is the expected one
unfoldable pub string_is : List ℕ → List ℕ → Data → Bool
string_is name expected owner = unwrap_or (option_map (bytes_eq expected) (string_member name owner)) false

-- the member `type` is this string
abbrev pub is_type : List ℕ → Data → Bool
is_type expected owner = string_is (codes "type") expected owner

-- the object has a member with this name, of any type
abbrev pub has : List ℕ → Data → Bool
has name owner = is_some (get name owner)

-- what `find` gives for the member with this name
abbrev pub in_member : {T : Type 0} → List ℕ → (Data → Option T) → Data → Option T
in_member name find owner = option_and_then find (get name owner)

-- the member with this name is present and passes the test
abbrev pub passes : List ℕ → (Data → Bool) → Data → Bool
passes name test owner = unwrap_or (option_map test (get name owner)) false

-- ---- the parameters of PBKDF2, which key slots and digests state in the same way

-- the hash function that the object's member `hash` names, if it is known
unfoldable pub hash_member : Data → Option Hash
hash_member owner = option_and_then hash_named (string_member (codes "hash") owner)

-- the iterations of PBKDF2 in an object (0 if the member is missing or of another type)
abbrev pub iterations_in : Data → ℕ
iterations_in owner = unwrap_or (integer_member (codes "iterations") owner) 0

-- ---- how sectors are encrypted: the cipher, which is AES, and its mode, in the notation of dm-crypt

-- the mode that a string names after `aes-`, if that mode is known
unfoldable pub encryption_mode : List ℕ → Option Mode
encryption_mode encryption =
    if bytes_eq (take 4 encryption) (codes "aes-") then mode_named (drop 4 encryption) else None

-- a key of the mode can have this many bytes; if the mode is not known, a key of some mode can
unfoldable pub is_length_for : Option Mode → ℕ → Bool
is_length_for known bytes = option_map_or (λ mode. is_mode_key_length mode bytes) known (is_key_length bytes)

-- ---- base64 in groups of four symbols (RFC 4648, section 4)

-- the byte is a letter, a digit, a plus sign or a slash
abbrev pub is_in_alphabet : ℕ → Bool
is_in_alphabet byte = is_ascii_alphanumeric byte || (byte == 43 || byte == 47)

-- the byte has a value in the standard alphabet
unfoldable pub is_symbol : ℕ → Bool
is_symbol byte = not (slice_index standard.decode_table byte == 255)

-- each of the first four bytes has a value in the standard alphabet
abbrev pub begins_with_group : List ℕ → Bool
begins_with_group text =
    is_symbol (slice_index text 0)
    && (is_symbol (slice_index text 1) && (is_symbol (slice_index text 2) && is_symbol (slice_index text 3)))

-- the number of bytes that the text encodes, if it is valid base64
abbrev pub encoded_len : List ℕ → Option ℕ
encoded_len text = option_map (λ (bytes : List ℕ). length bytes) (decoded_of standard text)
