-- What strings encode: bytes in base64, which are decoded group by group, and numbers in decimal digits.
use Rattle.std.proofs.Common.{◌≡◌, ◌∙◌, ℕ, ◌+◌, ◌*◌, ◌<◌, ◌≤◌, ◌-◌, ◌^◌, Bool, true, false, List, [], ◌++◌, length}
use Rattle.std.proofs.Common.{take_all, drop, Option, Some, None, Result, Ok, Err, ◌⊎◌, inl, inr, refl, sym, ap, arith}
use Rattle.std.proofs.Common.{rules, take}
use Rattle.std.specs.Prelude.{◌&&◌, if◌then◌else◌, nat_lt, not, is_none, is_some, option_map, slice_index}
use Rattle.std.specs.Char.{is_ascii_digit}
use Rattle.std.specs.Io.KnownBytes.{prepend_known}
use Rattle.std.specs.List.{list_all}
use Rattle.std.specs.Result.{OkIff, result_ok}
use Rattle.std.specs.Str.Parse.{ParsesUnsigned, digits_value}
use Rattle.std.proofs.lemmas.Bool.{agree_below_at, cases_lt, le-leb, le-ltb, lt-ltb, not-true}
use Rattle.std.proofs.lemmas.List.{append-nil, length-append, length-drop, length-take}
use Rattle.std.proofs.lemmas.Str.Parse.{IsNumeralModel, numerals_by_value, parse_digits, parse_gives}
use Rattle.base64.proofs.Decoding.{groups_error_first, length-groups_bytes}
use Rattle.base64.proofs.Streams.{decoded_of-groups, decoded_of-ok}
use Rattle.base64.specs.Decode.{decode_outcome, decoded_bytes, groups_before_last, groups_error, or_else, lone_error}
use Rattle.base64.specs.Decode.{suffix_error}
use Rattle.base64.specs.Engines.{standard}
use Rattle.base64.specs.GeneralPurpose.{decode_of, decoded_of, groups_bytes_of, groups_error_of}
use Rattle.base64.specs.declared.decode.DecodeError.{DecodeError}
use Rattle.luks_format.proofs.MadeLemmas.{some_from_not_none}
use Rattle.luks2_json.specs.Member.{begins_with_group, decimal_of, encoded_len, is_in_alphabet, is_symbol}
use Rattle.luks2_json.proofs.NumberedLemmas.{none_from_not_some}

-- ---- base64: symbols

pub in_alphabet : (byte : ℕ) → byte < 256 → is_in_alphabet byte ≡ is_symbol byte
unfolding is_symbol
in_alphabet byte small = agree_below_at is_in_alphabet is_symbol 256 byte refl small

-- ---- base64: groups

-- a text begins with a group exactly if its first four bytes decode without an error
of_one : (has : Bool) (e : DecodeError) (more : Option DecodeError)
    → is_none (or_else (if has then Some e else None) more) ≡ (not has && is_none more)
of_one true e more = refl
of_one false e more = refl

of_last : (has : Bool) (e : DecodeError) → is_none (if has then Some e else None) ≡ not has
of_last true e = refl
of_last false e = refl

group_is : (text : List ℕ) → begins_with_group text ≡ is_none (groups_error_of standard text 1)
unfolding is_symbol groups_error
group_is text = sym (of_one _ _ _ ∙ ap (λ b. is_symbol (slice_index text 0) && b) (of_one _ _ _
    ∙ ap (λ b. is_symbol (slice_index text 1) && b) (of_one _ _ _
    ∙ ap (λ b. is_symbol (slice_index text 2) && b) (of_last _ _))))

len_known : (prefix : List ℕ) (rest : Option (List ℕ)) → length prefix ≡ 3 → (before : ℕ)
    → option_map (λ (n : ℕ). before + 3 + n) (option_map (λ (bytes : List ℕ). length bytes) rest)
    ≡ option_map (λ (n : ℕ). before + n) (option_map (λ (bytes : List ℕ). length bytes) (prepend_known prefix rest))
len_known prefix None three before = refl
len_known prefix (Some bytes) three before =
    let same : before + 3 + length bytes ≡ before + length (prefix ++ bytes) =
    omega (arith, length-append prefix bytes) in
    ap (λ (n : ℕ). Some n) same

-- a text that starts with a group encodes three bytes more than the rest of it, which is a part of a slice
pub len_rest : (text : List ℕ) (before : ℕ) → 4 < length text → begins_with_group text ≡ true
    → option_map (λ (n : ℕ). before + 3 + n) (encoded_len (take (length text - 4) (drop 4 text)))
    ≡ option_map (λ (n : ℕ). before + n) (encoded_len text)
len_rest text before more is =
    let none = none_from_not_some (groups_error_of standard text 1)
    (not-true (is_some (groups_error_of standard text 1)) (sym (group_is text) ∙ is)) in
    let split = decoded_of-groups standard text [] 1 more none in
    let whole = rw (append-nil text, append-nil (drop 4 text)) at split in
    let three : length (groups_bytes_of standard text 1) ≡ 3 = length-groups_bytes standard.decode_table text 1 in
    let all : length (drop 4 text) ≤ length text - 4 = omega (arith, length-drop 4 text) in
    rw (take_all (length text - 4) (drop 4 text) all, whole)
    (len_known (groups_bytes_of standard text 1) (decoded_of standard (drop 4 text)) three before)

outcome_none : (lone groups suffix : Option DecodeError) (e : DecodeError) (bytes : List ℕ) → groups ≡ Some e
    → (d : DecodeError) × (decode_outcome (or_else lone (or_else groups suffix)) bytes ≡ Err d)
outcome_none None groups suffix e bytes is = (e, rw is refl)
outcome_none (Some d) groups suffix e bytes is = (d, refl)

-- a text that does not begin with a group encodes nothing
pub not_encoded : (text : List ℕ) → 4 < length text → begins_with_group text ≡ false → encoded_len text ≡ None
unfolding decoded_of
not_encoded text more is =
    let error = some_from_not_none (groups_error_of standard text 1) (sym (group_is text) ∙ is) in
    let first = groups_error_first standard.decode_table text 1 (groups_before_last (length text)) error.0 error.1
    (omega arith) in
    let none = outcome_none (lone_error standard.decode_table 61 text)
    (groups_error standard.decode_table text (groups_before_last (length text)))
    (suffix_error standard.decode_table 61 false standard.config.decode_padding_mode
    (4 * groups_before_last (length text)) text) error.0 (decoded_bytes standard.decode_table 61 text) first in
    rw none.1 refl

-- the length of a last group: as many bytes as it decodes to, or none if decoding fails
pub len_ok : (text new : List ℕ) (n : ℕ) → decode_of standard text ≡ Ok (take n new) → n ≤ length new
    → encoded_len text ≡ Some n
len_ok text new n is few =
    let all : length (take n new) ≡ n = omega (arith, length-take n new) in
    ap (option_map (λ (bytes : List ℕ). length bytes)) (decoded_of-ok standard text _ is) ∙ ap (λ (k : ℕ). Some k) all

pub encoded_err : (text : List ℕ) (e : DecodeError) → decode_of standard text ≡ Err e → decoded_of standard text ≡ None
unfolding decoded_of
encoded_err text e is = rw is refl

-- ---- decimal digits

pub numerals : IsNumeralModel (λ ds. list_all is_ascii_digit ds ≡ true) (digits_value 10)
numerals = numerals_by_value _ (search rules)

-- a number of 2^64 or more is not read, if only smaller ones are
none_of_large : {E : Type 0} (P : Type 0) (n : ℕ) (r : Result ℕ E) → OkIff r (P × (n < 2 ^ 64)) n → 2 ^ 64 ≤ n
    → result_ok r ≡ None
none_of_large P n (Ok x) h large = absurd (omega (arith, h.0.1))
none_of_large P n (Err e) h large = refl

-- std's `parse` reads a string of 1 to 20 digits as `decimal_of` states
pub parse-decimal : {E : Type 0} (text : List ℕ) (r : Result ℕ E) → ParsesUnsigned 64 10 text r
    → list_all is_ascii_digit text ≡ true → 0 < length text → length text ≤ 20 → result_ok r ≡ decimal_of text
unfolding decimal_of
parse-decimal text r h digits some few =
    rw (lt-ltb 0 (length text) some, le-leb (length text) 20 few, digits)
    (of_size (cases_lt (digits_value 10 text) (2 ^ 64)))
  where
    of_size : (digits_value 10 text < 2 ^ 64) ⊎ (2 ^ 64 ≤ digits_value 10 text)
        → result_ok r ≡ (if nat_lt (digits_value 10 text) (2 ^ 64) then Some (digits_value 10 text) else None)
    of_size (inl small) =
        let is : r ≡ Ok (digits_value 10 text) = parse_gives numerals 64 text r h digits some small in
        rw (is, lt-ltb (digits_value 10 text) (2 ^ 64) small) refl
    of_size (inr large) =
        let none : result_ok r ≡ None = none_of_large (0 < length text) (digits_value 10 text) r
        (parse_digits numerals 64 text r h digits) large in
        rw (none, le-ltb (digits_value 10 text) (2 ^ 64) large) refl
