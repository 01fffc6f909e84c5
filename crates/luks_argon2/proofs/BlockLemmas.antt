-- Blocks that are filled row by row.
use Rattle.std.proofs.Common.{◌≡◌, ℕ, ◌+◌, ◌<◌, List, [], length, refl, arith, inl, inr}
use Rattle.std.proofs.Common.{bit_xor, ◌∙◌, ap, sym, Bool, true, false}
use Rattle.std.proofs.lemmas.Bool.{cases_lt}
use Rattle.std.proofs.lemmas.List.{ext_get_or, get_or-set_other, get_or-set_same, length-set}
use Rattle.std.proofs.lemmas.List.FromFn.{get_or-map-range_with_len, length-map-range_with_len}
use Rattle.std.specs.Prelude.{slice_index, slice_set}
use Rattle.std.specs.Int.Bits.{xor_assoc, xor_comm}
use Rattle.luks_argon2.specs.Block.{block_of, block_row}
use Rattle.luks_argon2.specs.Compression.{column, columns_permuted, kept_block, compressed, new_block}
use Rattle.luks_argon2.specs.Compression.{rows_permuted}
use Rattle.luks_argon2.specs.Block.{xor_blocks, xor_rows}

-- the first i rows of a block are those of f
pub record HasRows (x : List (List ℕ)) (f : ℕ → List ℕ) (i : ℕ) : Type 0 where
  pub long : length x ≡ 8
  pub each : (k : ℕ) → k < i → block_row x k ≡ f k

pub one_more_row : (x : List (List ℕ)) (f : ℕ → List ℕ) (i : ℕ) (v : List ℕ) → i < 8 → v ≡ f i → HasRows x f i
    → HasRows (slice_set x i v) f (i + 1)
one_more_row x f i v inside is so_far = record {
  long = length-set x i v ∙ so_far.long;
  each = λ k below. elim (cases_lt k i) [
    | inl before ↦ get_or-set_other x i k v [] (omega arith) ∙ so_far.each k before
    | inr at ↦
        let last : i ≡ k = omega arith in
        rw (← last) (get_or-set_same x i v [] (omega (arith, so_far.long)) ∙ is)
  ];
}

pub row_of : (f : ℕ → List ℕ) (k : ℕ) → k < 8 → block_row (block_of f) k ≡ f k
unfolding block_of
row_of f k below = get_or-map-range_with_len f 0 8 k k [] below (omega arith)

pub length-block_of : (f : ℕ → List ℕ) → length (block_of f) ≡ 8
unfolding block_of
length-block_of f = length-map-range_with_len f 0 8

pub all_rows : (x : List (List ℕ)) (f : ℕ → List ℕ) (i : ℕ) → i ≡ 8 → HasRows x f i → x ≡ block_of f
all_rows x f i done rows =
    ext_get_or [] x (block_of f) (rows.long ∙ sym (length-block_of f)) (λ k below.
    rows.each k (omega (arith, rows.long)) ∙ sym (row_of f k (omega (arith, rows.long))))

pub same_blocks : (f g : ℕ → List ℕ) → ((k : ℕ) → k < 8 → f k ≡ g k) → block_of f ≡ block_of g
same_blocks f g same =
    all_rows (block_of f) g 8 refl (record {
      long = length-block_of f;
      each = λ k below. row_of f k below ∙ same k below;
    })

-- ---- the order of XOR

xor_left : (r o c : ℕ) → bit_xor (bit_xor r o) c ≡ bit_xor o (bit_xor r c)
xor_left r o c = ap (λ x. bit_xor x c) (xor_comm r o) ∙ xor_assoc o r c

rows_left : (r o c : List ℕ) → xor_rows (xor_rows r o) c ≡ xor_rows o (xor_rows r c)
unfolding xor_rows
rows_left r o c =
    let same = λ (k : ℕ). xor_left (slice_index r k) (slice_index o k) (slice_index c k) in
    rw (
      same 0,
      same 1,
      same 2,
      same 3,
      same 4,
      same 5,
      same 6,
      same 7,
      same 8,
      same 9,
      same 10,
      same 11,
      same 12,
      same 13,
      same 14,
      same 15,
    ) refl

-- the XOR of what was kept with the rows of the columns is the new block
pub kept_mixed : (again : Bool) (old x y : List (List ℕ))
    → xor_blocks (kept_block again old (xor_blocks x y))
    (block_of (column (columns_permuted (rows_permuted (xor_blocks x y)))))
    ≡ new_block again old x y
unfolding compressed
kept_mixed true old x y =
    let r = xor_blocks x y in
    let c = column (columns_permuted (rows_permuted r)) in
    same_blocks (λ k. xor_rows (block_row (kept_block true old r) k) (block_row (block_of c) k))
    (λ k. xor_rows (block_row old k) (block_row (xor_blocks r (block_of c)) k)) (λ k below.
    rw (
      row_of (λ k. xor_rows (block_row r k) (block_row old k)) k below,
      row_of (λ k. xor_rows (block_row r k) (block_row (block_of c) k)) k below,
    ) (rows_left (block_row r k) (block_row old k) (block_row (block_of c) k)))
kept_mixed false old x y =
    let r = xor_blocks x y in
    let c = column (columns_permuted (rows_permuted r)) in
    same_blocks (λ k. xor_rows (block_row (kept_block false old r) k) (block_row (block_of c) k))
    (λ k. xor_rows (block_row r k) (block_row (block_of c) k)) (λ k below.
    rw (row_of (λ k. block_row r k) k below) refl)
