-- The names of key slots and digests (LUKS2 On-Disk Format Specification 1.1, section 3): the numbers from 0 to 31 in
-- decimal digits, without leading zeros. Members under other names are ignored.
use Rattle.std.specs.Prelude.{ℕ, zero, suc, ◌||◌, not, Bool, false, List, Option, None, bytes_eq, codes, decimal}
use Rattle.std.specs.Prelude.{nat_lt, if◌then◌else◌, option_map, unwrap_or}
use Rattle.std.specs.Option.{option_or}
use Rattle.luks_format.specs.Rule.{max_slots}
use Rattle.luks2_json.specs.Member.{in_member}
use Rattle.serde_json.specs.Data.{Data, Members, no_members, member}
use Rattle.serde_json.specs.Find.{as_object, get}

-- the value with a number in the object of this name, `keyslots` or `digests`
unfoldable pub object_numbered : List ℕ → Data → ℕ → Option Data
object_numbered names tree number =
    if nat_lt number max_slots then in_member names (get (decimal number)) tree else None

-- the name is a number below n in decimal digits
unfoldable pub is_number_below : ℕ → List ℕ → Bool
is_number_below zero name = false
is_number_below (suc n) name = is_number_below n name || bytes_eq name (decimal n)

-- a member has a name that passes the test
abbrev pub any_name : (List ℕ → Bool) → Members → Bool
any_name test no_members = false
any_name test (member name value rest) = test name || any_name test rest

-- a member of `keyslots` is ignored, since its name is not a number below 32
unfoldable pub has_key_out_of_range : Data → Bool
has_key_out_of_range tree =
    unwrap_or (option_map (any_name (λ name. not (is_number_below max_slots name)))
    (in_member (codes "keyslots") as_object tree)) false

-- the result of the lowest number below n that has one
unfoldable pub lowest : {T : Type 0} → (ℕ → Option T) → ℕ → Option T
lowest f zero = None
lowest f (suc n) = option_or (lowest f n) (f n)
