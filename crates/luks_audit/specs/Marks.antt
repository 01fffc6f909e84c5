-- Characters that a terminal obeys, or that change the order in which text is shown: they are printed as `\u` and four
-- hexadecimal digits, which JSON reads as the same character (RFC 8259, section 7). A line is UTF-8.
use Rattle.std.specs.Prelude.{ℕ, ◌+◌, ◌-◌, ◌&&◌, ◌||◌, ◌==◌, ◌++◌, Bool, false, List, [], ◌∷◌, Option, Some, None}
use Rattle.std.specs.Prelude.{codes}
use Rattle.std.specs.Prelude.{if◌then◌else◌, length, nat_le, nat_lt, slice_get, unwrap_or}
use Rattle.std.specs.List.{list_any}
use Rattle.hex.specs.Hex.{encode_lower}
use Rattle.luks_audit.specs.Numbers.{by_number}
use Rattle.luks_audit.specs.declared.mark.Mark.{Mark}

-- the number is one of the range
abbrev pub is_between : ℕ → ℕ → ℕ → Bool
is_between first last n = nat_le first n && nat_le n last

-- a mark whose code point has these two bytes, and its length in UTF-8
abbrev pub mark : ℕ → ℕ → ℕ → Mark
mark high low len = record { high = high; low = low; len = len }

-- the mark of general punctuation that begins with these bytes: U+200E and U+200F, the embeddings U+202A to U+202E, and
-- the isolates U+2066 to U+2069
abbrev pub direction_of : ℕ → ℕ → ℕ → Option Mark
direction_of a b c =
    if (a == 226) && (b == 128) && (is_between 142 143 c || is_between 170 174 c) then Some (mark 32 (c - 128) 3)
    else if (a == 226) && (b == 129) && is_between 166 169 c then Some (mark 32 (c - 64) 3)
    else None

-- the mark that begins with these bytes: DEL; a control, U+0080 to U+009F; the Arabic letter mark, U+061C; or one of
-- those above
unfoldable pub mark_of : ℕ → ℕ → ℕ → Option Mark
mark_of a b c =
    if a == 127 then Some (mark 0 127 1)
    else if (a == 194) && is_between 128 159 b then Some (mark 0 b 2)
    else if (a == 216) && (b == 156) then Some (mark 6 28 2)
    else direction_of a b c

abbrev pub text_byte : List ℕ → ℕ → ℕ
text_byte text i = unwrap_or (slice_get text i) 0

unfoldable pub mark_at : List ℕ → ℕ → Option Mark
mark_at text i = mark_of (text_byte text i) (text_byte text (i + 1)) (text_byte text (i + 2))

-- a byte with which a mark can begin: DEL, or one that is not ASCII
abbrev pub is_lead : ℕ → Bool
is_lead byte = nat_lt 126 byte

abbrev pub has_lead : List ℕ → Bool
has_lead text = list_any is_lead text

-- a mark has more than this many bytes
abbrev pub is_longer : ℕ → Option Mark → Bool
is_longer len None = false
is_longer len (Some mark) = nat_lt len mark.len

-- the byte is in a mark, and not its first one
unfoldable pub is_behind : List ℕ → ℕ → Bool
is_behind text i =
    (nat_le 1 i && is_longer 1 (mark_at text (i - 1))) || (nat_le 2 i && is_longer 2 (mark_at text (i - 2)))

abbrev pub escape_of : Mark → List ℕ
escape_of mark = codes "\\u" ++ encode_lower (mark.high ∷ mark.low ∷ [])

-- what is printed for a byte that begins no mark
abbrev pub unmarked : List ℕ → ℕ → List ℕ
unmarked text i = if is_behind text i then [] else text_byte text i ∷ []

-- what is printed for each byte: for a mark all at its first one
abbrev pub printed_for : Option Mark → List ℕ → List ℕ
printed_for None byte = byte
printed_for (Some mark) byte = escape_of mark

unfoldable pub printed_at : List ℕ → ℕ → List ℕ
printed_at text i = printed_for (mark_at text i) (unmarked text i)

unfoldable pub marks_escaped : List ℕ → List ℕ
marks_escaped text = by_number (printed_at text) (length text)
