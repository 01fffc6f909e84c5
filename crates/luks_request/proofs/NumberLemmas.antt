-- The result of std's `parse` for a number in the arguments.
use Rattle.std.proofs.Common.{◌≡◌, ◌<◌, ◌≤◌, ℕ, List, Some, Result, true, length, arith, rules, ap}
use Rattle.std.proofs.lemmas.Str.Parse.{IsNumeralModel, digits_value_short, numerals_by_value, parse_gives}
use Rattle.std.specs.Char.{is_ascii_digit}
use Rattle.std.specs.List.{list_all}
use Rattle.std.specs.Result.{result_ok}
use Rattle.std.specs.Str.Parse.{ParsesUnsigned, digits_value}
use Rattle.luks_request.specs.Number.{is_number}

numerals : IsNumeralModel (λ ds. list_all is_ascii_digit ds ≡ true) (digits_value 10)
numerals = numerals_by_value _ (search rules)

pub parse-number : {E : Type 0} (text : List ℕ) (r : Result ℕ E) → ParsesUnsigned 64 10 text r → is_number text ≡ true
    → result_ok r ≡ Some (digits_value 10 text)
parse-number text r h is =
    let digits : list_all is_ascii_digit text ≡ true = search rules in
    let some : 0 < length text = search rules in
    let few : length text ≤ 10 = search rules in
    ap result_ok (parse_gives numerals 64 text r h digits some
    (omega (arith, digits_value_short numerals text 10 digits few)))
