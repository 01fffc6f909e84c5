-- Arrays of strings, as digests have them (LUKS2 On-Disk Format Specification 1.1, section 3, the digests object).
use Rattle.std.specs.Prelude.{ℕ, Bool, false, List, [], ◌∷◌, bytes_eq, is_some, option_map, unwrap_or}
use Rattle.std.specs.List.{cons_option, list_all, list_any}
use Rattle.std.specs.Option.{option_map_or}
use Rattle.luks2_json.specs.Member.{in_member}
use Rattle.serde_json.specs.Data.{Data, Items, no_items, item}
use Rattle.serde_json.specs.Find.{as_array, as_str}

-- the items of an array, as a list
abbrev pub items_listed : Items → List Data
items_listed no_items = []
items_listed (item value rest) = value ∷ items_listed rest

-- the value is this string
abbrev pub is_the_string : List ℕ → Data → Bool
is_the_string text value = unwrap_or (option_map (bytes_eq text) (as_str value)) false

-- the strings among the items, in their order
abbrev pub strings_among : Items → List (List ℕ)
strings_among no_items = []
strings_among (item value rest) = cons_option (as_str value) (strings_among rest)

-- there is an array under this name, and all its items are strings
unfoldable pub has_strings : List ℕ → Data → Bool
has_strings name owner =
    option_map_or (λ all. list_all (λ it. is_some (as_str it)) (items_listed all)) (in_member name as_array owner) false

-- there is an array under this name, and it contains the string
unfoldable pub array_contains : List ℕ → List ℕ → Data → Bool
array_contains name text owner =
    option_map_or (λ all. list_any (is_the_string text) (items_listed all)) (in_member name as_array owner) false

-- the strings in the array under this name
unfoldable pub strings_at : List ℕ → Data → List (List ℕ)
strings_at name owner = unwrap_or (option_map strings_among (in_member name as_array owner)) []
