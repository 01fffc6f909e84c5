-- Numbers, bytes and modes are read back as they were written, and so are the lengths of a segment and of its sectors.
use Rattle.std.proofs.Common.{◌≡◌, ◌∙◌, ◌%◌, ◌<◌, ◌^◌, ℕ, List, ◌++◌, Option, Some, None, Bool, true, false, length, ap}
use Rattle.std.proofs.Common.{arith, refl, sym, codes, decimal, bytes_eq, true≢false}
use Rattle.std.specs.Char.{is_ascii_digit}
use Rattle.std.specs.List.{list_all}
use Rattle.std.specs.Result.{result_ok}
use Rattle.std.proofs.lemmas.Bool.{eq-eqb, false_from_ne_true, le-leb, lt-ltb}
use Rattle.std.proofs.lemmas.Fmt.{decimal_nonempty, digits_decimal, digits_value-decimal, length-decimal-le}
use Rattle.std.proofs.lemmas.Slice.Eq.{bytes_eq-Decides}
use Rattle.base64.proofs.EngineFacts.{decode_of-encode_of}
use Rattle.base64.specs.Engines.{standard}
use Rattle.base64.specs.GeneralPurpose.{decoded_of, encode_of}
use Rattle.serde_json.specs.Data.{member, no_members, object}
use Rattle.luks_aes.specs.Bytes.{IsBytes}
use Rattle.luks_cipher.specs.Sector.{mode_name}
use Rattle.luks_cipher.specs.declared.mode.Mode.{Mode}
use Rattle.luks_format.specs.SectorSize.{has_whole_sectors, bytes_of}
use Rattle.luks_format.specs.declared.sector_size.SectorSize.{SectorSize}
use Rattle.luks2_json.specs.Member.{decimal_of, decimal_member, encryption_mode, string_is, string_member}
use Rattle.luks2_json.proofs.EncodedLemmas.{numerals}
use Rattle.luks2_metadata.specs.Segment2.{size_member}
use Rattle.luks_volume.proofs.MaterialLemmas.{mode_is_named}
use Rattle.luks_volume.specs.Layout2.{size_value}

pub decimal_read : (n : ℕ) → n < 2 ^ 64 → decimal_of (decimal n) ≡ Some n
unfolding decimal_of
decimal_read n small =
    rw (
      lt-ltb 0 (length (decimal n)) (decimal_nonempty n small),
      le-leb (length (decimal n)) 20 (length-decimal-le 20 n (omega arith) (omega arith) small),
      digits_decimal numerals n small,
      digits_value-decimal numerals n small,
      lt-ltb n (2 ^ 64) small,
    ) refl

pub base64_read : (bytes : List ℕ) → IsBytes bytes → decoded_of standard (encode_of standard bytes) ≡ Some bytes
unfolding decoded_of
base64_read bytes are = ap result_ok (decode_of-encode_of standard bytes refl are.each)

pub mode_read : (mode : Mode) → encryption_mode (codes "aes-" ++ mode_name mode) ≡ Some mode
unfolding encryption_mode
mode_read mode = (mode_is_named mode).by_name

-- the payload's length, if it is fixed
abbrev pub fixed_size : Bool → ℕ → Option ℕ
fixed_size true len = Some len
fixed_size false len = None

-- no number is written as the string `dynamic`
not_dynamic : (n : ℕ) → n < 2 ^ 64 → bytes_eq (codes "dynamic") (decimal n) ≡ false
not_dynamic n small =
    false_from_ne_true (bytes_eq (codes "dynamic") (decimal n)) (λ yes.
    let is : codes "dynamic" ≡ decimal n = (bytes_eq-Decides (codes "dynamic") (decimal n)).0 yes in
    true≢false (sym (ap (list_all is_ascii_digit) is ∙ digits_decimal numerals n small)))

pub size_read : (fixed : Bool) (len : ℕ) → len < 2 ^ 64
    → size_member (object (member (codes "size") (size_value fixed len) no_members)) ≡ Some (fixed_size fixed len)
unfolding size_member string_is decimal_member string_member
size_read true len small = rw (not_dynamic len small, decimal_read len small) refl
size_read false len small = refl

pub whole_size : (fixed : Bool) (len : ℕ) (size : SectorSize) → len % bytes_of size ≡ 0
    → has_whole_sectors (fixed_size fixed len) size ≡ true
whole_size true len size whole = eq-eqb (len % bytes_of size) 0 whole
whole_size false len size whole = refl
