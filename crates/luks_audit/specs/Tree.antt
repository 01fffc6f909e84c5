-- Trees of JSON values, built member by member. Names of members are unique, and an object has them in ascending order.
use Rattle.std.specs.Prelude.{ℕ, List, [], ◌∷◌, Option, if◌then◌else◌, option_map, unwrap_or}
use Rattle.serde_json.specs.Data.{Data, null, number, string, unsigned, array, object, no_members, put}
use Rattle.serde_json.specs.View.{items_of}
use Rattle.serde_json.specs.Written.{has_float}

-- the object with this member as well
unfoldable pub with_member : List ℕ → Data → Data → Data
with_member name value (object members) = object (put name value members)
with_member name value other = other

-- the object with these members as well
abbrev pub with_fields : List (List ℕ × Data) → Data → Data
with_fields [] owner = owner
with_fields ((name, value) ∷ fields) owner = with_fields fields (with_member name value owner)

-- the object without members
abbrev pub empty_object : Data
empty_object = object no_members

-- a number; a number or a text if there is one, and otherwise null
abbrev pub num : ℕ → Data
num n = number (unsigned n)

abbrev pub optional_num : Option ℕ → Data
optional_num n = unwrap_or (option_map num n) null

abbrev pub optional_word : Option (List ℕ) → Data
optional_word text = unwrap_or (option_map string text) null

-- a value as it is stored, or null if it has a float: a float has more than one text
unfoldable pub unless_float : Data → Data
unless_float value = if has_float value then null else value

-- an array of values
abbrev pub array_of : List Data → Data
array_of values = array (items_of values)
