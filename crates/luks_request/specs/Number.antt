-- The numbers in the arguments.
use Rattle.std.specs.Prelude.{◌&&◌, ℕ, Bool, List, Option, Some, None, length, nat_le, nat_lt}
use Rattle.std.specs.Prelude.{if◌then◌else◌, option_and_then, option_map}
use Rattle.std.specs.Char.{is_ascii_digit}
use Rattle.std.specs.List.{list_all}
use Rattle.std.specs.Str.Parse.{digits_value}

-- the text is 1 to 10 ASCII digits
abbrev pub is_number : List ℕ → Bool
is_number text = nat_lt 0 (length text) && (nat_le (length text) 10 && list_all is_ascii_digit text)

-- the number in the text, if the text is one
abbrev pub number_of : List ℕ → Option ℕ
number_of text = if is_number text then Some (digits_value 10 text) else None

-- the number, if it is in the range
abbrev pub if_within : ℕ → ℕ → ℕ → Option ℕ
if_within least most n = if nat_le least n && nat_le n most then Some n else None

-- the number in the text, if it is in the range
abbrev pub number_within : ℕ → ℕ → List ℕ → Option ℕ
number_within least most text = option_and_then (if_within least most) (number_of text)

-- `Some None` if the text is left out; otherwise its number, if in range
abbrev pub optional_within : ℕ → ℕ → Option (List ℕ) → Option (Option ℕ)
optional_within least most None = Some None
optional_within least most (Some text) = option_map (λ n. Some n) (number_within least most text)
