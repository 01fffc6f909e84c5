-- Fields: numbers as the `byteorder` crate reads them, and texts.
use Rattle.std.proofs.lemmas.Grind.{common_steps}
use Rattle.std.proofs.Common.{◌≡◌, ℕ, ◌+◌, ◌-◌, ◌≤◌, ◌==◌, List, length, take, arith}
use Rattle.std.specs.Prelude.{position}
use Rattle.std.specs.Option.{unwrap_or}
use Rattle.std.proofs.lemmas.List.{drop-take, take-take}
use Rattle.std.proofs.lemmas.List.Sums.{prefix_len-le-length}
use Rattle.byteorder.specs.Endian.{big_number}
use Rattle.luks_format.specs.Fields.{at, be32, be64, text_of}

-- the big-endian number in the first four bytes
pub big_number-be32 : (bytes : List ℕ) → big_number 4 bytes ≡ be32 bytes
unfolding be32
big_number-be32 bytes = omega arith

-- the big-endian number in the first eight bytes
pub big_number-be64 : (bytes : List ℕ) → big_number 8 bytes ≡ be64 bytes
unfolding be64
big_number-be64 bytes = omega arith

-- the text ends before the first zero byte, or with its field
pub take-first_zero : (field : List ℕ)
    → take (unwrap_or (position (λ b. b == 0) field) (length field)) field ≡ text_of field
take-first_zero field = grind (arith, prefix_len-le-length {X = ℕ})

-- bytes that end at or before offset n are the same in the first n bytes
pub at_prefix : (offset len n : ℕ) (image : List ℕ) → offset + len ≤ n
    → at offset len (take n image) ≡ at offset len image
at_prefix offset len n image before =
    let count : n ≡ offset + (n - offset) = omega arith in
    grind (arith, common_steps, drop-take, take-take)
