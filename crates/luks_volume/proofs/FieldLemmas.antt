-- Bytes at an offset: of concatenated lists, of fields padded with zeros, and of bytes that are put together from parts
-- of known lengths, as headers are from fields.
use Rattle.std.proofs.Common.{◌≡◌, ◌∙◌, ℕ, ◌+◌, ◌-◌, ◌≤◌, List, ◌++◌, length, take, drop, replicate, refl, sym, ap}
use Rattle.std.proofs.Common.{arith, length-append, length-drop, zero, suc, [], ◌∷◌, get_or, take_at}
use Rattle.std.proofs.lemmas.List.{drop-append-le, drop-drop, drop-take, drop_at, length-replicate, length-take-le}
use Rattle.std.proofs.lemmas.List.{take-append-le, take-take, take_all}
use Rattle.luks_format.specs.Fields.{at}
use Rattle.luks_volume.specs.Pieces.{padded}

-- the bytes are in the image at this offset
pub record IsThere (offset : ℕ) (bytes image : List ℕ) : Type 0 where
  pub within : offset + length bytes ≤ length image
  pub is : at offset (length bytes) image ≡ bytes

-- a part that is within the first of two lists
pub at_first : (offset len : ℕ) (xs ys : List ℕ) → offset + len ≤ length xs
    → at offset len (xs ++ ys) ≡ at offset len xs
at_first offset len xs ys there =
    ap (take len) (drop-append-le offset xs ys (omega arith))
    ∙ take-append-le len (drop offset xs) ys (omega (arith, length-drop offset xs))

-- a part that starts within the second of two lists
pub at_within_second : (offset k len : ℕ) (xs ys : List ℕ) → offset ≡ length xs + k
    → at offset len (xs ++ ys) ≡ at k len ys
at_within_second offset k len xs ys is =
    ap (take len)
    (ap (λ n. drop n (xs ++ ys)) is ∙ sym (drop-drop k (length xs) (xs ++ ys))
    ∙ ap (drop k) (drop_at xs ys (length xs) refl))

-- a part that is the second of two lists
pub at_second : (offset len : ℕ) (xs ys : List ℕ) → offset ≡ length xs → length ys ≡ len → at offset len (xs ++ ys) ≡ ys
at_second offset len xs ys is all =
    at_within_second offset 0 len xs ys (omega arith) ∙ take_all len ys (omega arith)

-- a part of a part
pub at_at : (offset len start size : ℕ) (xs : List ℕ) → offset + len ≤ size
    → at offset len (at start size xs) ≡ at (start + offset) len xs
at_at offset len start size xs inside =
    let whole : offset + (size - offset) ≡ size = omega arith in
    ap (λ n. take len (drop offset (take n (drop start xs)))) (sym whole)
    ∙ ap (take len) (drop-take offset (size - offset) (drop start xs))
    ∙ take-take len (size - offset) (drop offset (drop start xs)) (omega arith)
    ∙ ap (take len) (drop-drop offset start xs)

-- bytes within a part are bytes of that part
pub at_inside : (start k len offset size : ℕ) (xs part : List ℕ) → start ≡ offset + k → k + len ≤ size
    → at offset size xs ≡ part → at start len xs ≡ at k len part
at_inside start k len offset size xs part starts inside is =
    ap (λ n. at n len xs) starts ∙ sym (at_at k len offset size xs inside) ∙ ap (at k len) is

-- a part that ends within a list has its full length
pub length-at : (offset len : ℕ) (xs : List ℕ) → offset + len ≤ length xs → length (at offset len xs) ≡ len
length-at offset len xs there = length-take-le len (drop offset xs) (omega (arith, length-drop offset xs))

-- padded bytes have the stated length, if that is not too short
pub length-padded : (capacity : ℕ) (xs : List ℕ) → length xs ≤ capacity → length (padded capacity xs) ≡ capacity
unfolding padded
length-padded capacity xs fits =
    omega (
      arith,
      length-append xs (replicate (capacity - length xs) 0),
      length-replicate {A = ℕ} (capacity - length xs) 0,
    )

-- bytes of padded bytes are bytes of the bytes themselves
pub at_padded : (offset len capacity : ℕ) (xs : List ℕ) → offset + len ≤ length xs
    → at offset len (padded capacity xs) ≡ at offset len xs
unfolding padded
at_padded offset len capacity xs there = at_first offset len xs (replicate (capacity - length xs) 0) there

-- padded bytes begin with the bytes themselves
pub padded_begins : (len capacity : ℕ) (xs : List ℕ) → len ≡ length xs → at 0 len (padded capacity xs) ≡ xs
padded_begins len capacity xs is = at_padded 0 len capacity xs (omega arith) ∙ take_all len xs (omega arith)

-- ---- parts, which are read back one by one

-- a part and its length
pub record Part : Type 0 where
  pub len : ℕ
  pub bytes : List ℕ
  pub is : length bytes ≡ len

abbrev pub part : (len : ℕ) (bytes : List ℕ) → length bytes ≡ len → Part
part len bytes is = record { len = len; bytes = bytes; is = is }

-- the parts, one after the other
abbrev pub joined_parts : List Part → List ℕ
joined_parts [] = []
joined_parts (first ∷ parts) = first.bytes ++ joined_parts parts

-- part k, counted from 0, and where it begins
abbrev pub part_of : ℕ → List Part → Part
part_of k parts = get_or parts k (part 0 [] refl)

abbrev pub begin_of : ℕ → List Part → ℕ
begin_of zero parts = 0
begin_of (suc k) [] = 0
begin_of (suc k) (first ∷ parts) = first.len + begin_of k parts

part_there : (k : ℕ) (parts : List Part)
    → at (begin_of k parts) (part_of k parts).len (joined_parts parts) ≡ (part_of k parts).bytes
part_there k [] = refl
part_there zero (first ∷ parts) = take_at first.bytes (joined_parts parts) first.len first.is
part_there (suc k) (first ∷ parts) =
    at_within_second (first.len + begin_of k parts) (begin_of k parts) (part_of k parts).len first.bytes
    (joined_parts parts) (omega (arith, first.is))
    ∙ part_there k parts

length-joined_parts : (parts : List Part) → length (joined_parts parts) ≡ begin_of (length parts) parts
length-joined_parts [] = refl
length-joined_parts (first ∷ parts) =
    omega (arith, length-append first.bytes (joined_parts parts), first.is, length-joined_parts parts)

-- the parts of some bytes: each is where it begins, and the bytes are as long as all parts together
pub record AreParts (bytes : List ℕ) (parts : List Part) : Type 0 where
  pub part_at : (k : ℕ) → at (begin_of k parts) (part_of k parts).len bytes ≡ (part_of k parts).bytes
  pub len : length bytes ≡ begin_of (length parts) parts

pub are_parts : (bytes : List ℕ) (parts : List Part) → bytes ≡ joined_parts parts → AreParts bytes parts
are_parts bytes parts are = record {
  part_at = λ k. ap (at (begin_of k parts) (part_of k parts).len) are ∙ part_there k parts;
  len = ap length are ∙ length-joined_parts parts;
}
