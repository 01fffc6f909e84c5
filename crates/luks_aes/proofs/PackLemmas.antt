-- From blocks to bit planes and back: bytes XORed with those of a mask, and the rows of a group.
use Rattle.std.proofs.Common.{◌≡◌, ℕ, ◌+◌, ◌*◌, ◌/◌, ◌%◌, ◌<◌, ◌≤◌, List, length, take, drop, set}
use Rattle.std.proofs.Common.{arith, rules, sym, ap, ◌∙◌, inl, inr}
use Rattle.std.specs.Prelude.{slice_index}
use Rattle.std.specs.Int.{bit_at}
use Rattle.std.specs.Int.Bits.{bit_xor, xor_zero_r}
use Rattle.std.specs.Simd.Lanes.{zip2, chunk, put_chunk}
use Rattle.std.proofs.lemmas.Bool.{cases_lt}
use Rattle.std.proofs.lemmas.Simd.{get_or-zip2, get_or-chunk, length-chunk, length-zip2, put_chunk_whole}
use Rattle.std.proofs.lemmas.Nat.Bits.{same_from_bits_below}
use Rattle.std.proofs.lemmas.List.{places, get_or-set_other}
use borrow.Rule.Slice.PartMut.{put_mid}
use Rattle.luks_aes.specs.Bytes.{IsBytes}
use Rattle.luks_aes.specs.Field.{◌⊕◌}
use Rattle.luks_aes.specs.Aes.{cell}
use Rattle.luks_aes.proofs.Bytes.{each_below_4}
use Rattle.luks_aes.proofs.ColumnLemmas.{xor_byte, bytes_take, bytes_drop, state_bytes}
use Rattle.luks_aes.proofs.MixingLemmas.{cell_of}
use Rattle.luks_aes.proofs.Undone.{xor_twice}
use Rattle.luks_aes.specs.Blocks.{block_in, masked_block, masked_byte, state_byte}

-- ---- blocks

-- lane i of the XOR of two blocks
pub xored_chunks : (a b : List ℕ) (n i : ℕ) → n + 16 ≤ length a → n + 16 ≤ length b → i < 16
    → slice_index (zip2 bit_xor (chunk n 16 a) (chunk n 16 b)) i
    ≡ bit_xor (slice_index a (n + i)) (slice_index b (n + i))
xored_chunks a b n i inside inside_too low =
    let first = length-chunk n 16 a inside in
    let second = length-chunk n 16 b inside_too in
    get_or-zip2 bit_xor (chunk n 16 a) (chunk n 16 b) i 0 0 0 (omega arith) (omega arith)
    ∙ (λ k. bit_xor (get_or-chunk n 16 a i 0 low k) (get_or-chunk n 16 b i 0 low k))

-- lane i of a block that was stored at n
stored_lane : (xs ys : List ℕ) (n k i : ℕ) → n + 16 ≤ length xs → k ≡ 16 → length ys ≡ 16 → i < 16
    → slice_index (put_mid n k xs ys) (n + i) ≡ slice_index ys i
stored_lane xs ys n k i inside whole long low = search (rules, places)

pub stored_block : (xs ys mask : List ℕ) (n k i : ℕ) → n + 16 ≤ length xs → n + 16 ≤ length mask → k ≡ 16
    → length ys ≡ 16 → i < 16
    → slice_index (put_mid n k xs (put_chunk 0 (take k (drop n xs)) (zip2 bit_xor ys (chunk n 16 mask)))) (n + i)
    ≡ bit_xor (slice_index ys i) (slice_index mask (n + i))
stored_block xs ys mask n k i inside inside_too whole long low =
    let lanes = chunk n 16 mask in
    let masked = zip2 bit_xor ys lanes in
    let lanes_long = length-chunk n 16 mask inside_too in
    let masked_long : length masked ≡ 16 = length-zip2 bit_xor ys lanes (long ∙ sym lanes_long) ∙ long in
    let room : length (take k (drop n xs)) ≡ 16 = rw whole (length-chunk n 16 xs inside) in
    ap (λ l. slice_index (put_mid n k xs l) (n + i))
    (put_chunk_whole (take k (drop n xs)) masked (room ∙ sym masked_long))
    ∙ stored_lane xs masked n k i inside whole masked_long low
    ∙ get_or-zip2 bit_xor ys lanes i 0 0 0 (omega arith) (omega arith)
    ∙ ap (bit_xor (slice_index ys i)) (get_or-chunk n 16 mask i 0 low)

-- ---- the bytes of blocks

-- a bit of a byte that was XORed twice
pub bit_xored_twice : (a b x k : ℕ) → a ≡ bit_xor x b → bit_at (bit_xor a b) k ≡ bit_at x k
bit_xored_twice a b x k is = ap (λ n. bit_at (bit_xor n b) k) is ∙ ap (λ n. bit_at n k) (xor_twice x b)

-- a byte that was XORed, by its bits
pub byte_of_bits : (a b x : ℕ) → a < 256 → b < 256 → x < 256
    → ((k : ℕ) → k < 8 → bit_at (a ⊕ b) k ≡ bit_at x k) → a ≡ x ⊕ b
byte_of_bits a b x low small inside bits =
    sym (xor_twice a b) ∙ ap (λ n. n ⊕ b) (same_from_bits_below 8 (a ⊕ b) x (xor_byte a b low small) inside bits)

-- byte i of a masked block, by row and column
masked_cell : (batch mask : List ℕ) (m r c : ℕ) → 16 * m + 16 ≤ length batch → 16 * m + 16 ≤ length mask
    → r < 4 → c < 4 → cell (masked_block batch mask m) r c ≡ masked_byte batch mask m (r + 4 * c)
masked_cell batch mask m r c inside inside_too low small =
    cell_of (λ r c. cell (block_in batch m) r c ⊕ cell (block_in mask m) r c) r c low small
    ∙ (λ k. get_or-chunk (16 * m) 16 batch (r + 4 * c) 0 (omega arith) k
    ⊕ get_or-chunk (16 * m) 16 mask (r + 4 * c) 0 (omega arith) k)

-- bit q of the word for row r of group h belongs to this byte
pub masked_at : (batch mask : List ℕ) (n r h q : ℕ) → length batch ≡ 64 * n → length mask ≡ 64 * n
    → r < 4 → h < n / 4 → q < 64
    → masked_byte batch mask (16 * h + q % 8 + 8 * (q / 8 % 2)) (r + 4 * (q / 8 / 2))
    ≡ state_byte (masked_block batch mask) 0 h r q
masked_at batch mask n r h q long long_too low inside small =
    let m = 16 * h + q % 16 in
    let block : 16 * h + q % 8 + 8 * (q / 8 % 2) ≡ m = omega arith in
    let column : q / 8 / 2 ≡ q / 16 = omega arith in
    (λ k. masked_byte batch mask (block k) (r + 4 * column k))
    ∙ sym (masked_cell batch mask m r (q / 16) (omega arith) (omega arith) low (omega arith))
    ∙ sym (xor_zero_r (cell (masked_block batch mask m) r (q / 16)))

-- masked blocks consist of bytes
block_bytes : (batch : List ℕ) (m : ℕ) → IsBytes batch → IsBytes (block_in batch m)
block_bytes batch m all = bytes_take 16 (drop (16 * m) batch) (bytes_drop (16 * m) batch all)

pub masked_bytes : (batch mask : List ℕ) (m : ℕ) → IsBytes batch → IsBytes mask → IsBytes (masked_block batch mask m)
masked_bytes batch mask m all also =
    state_bytes (λ r c. cell (block_in batch m) r c ⊕ cell (block_in mask m) r c)
    (λ r c. xor_byte (cell (block_in batch m) r c) (cell (block_in mask m) r c)
    ((block_bytes batch m all).each (r + 4 * c)) ((block_bytes mask m also).each (r + 4 * c)))

pub masked_state_byte : (batch mask : List ℕ) (r h q : ℕ) → IsBytes batch → IsBytes mask
    → state_byte (masked_block batch mask) 0 h r q < 256
masked_state_byte batch mask r h q all also =
    xor_byte (cell (masked_block batch mask (16 * h + q % 16)) r (q / 16)) 0
    ((masked_bytes batch mask (16 * h + q % 16) all also).each (r + 4 * (q / 16))) (omega arith)

-- byte i of state m is in row i % 4 and column i / 4, so at this bit of the words of that row of group m / 16
pub state_byte_at : (s : ℕ → List ℕ) (m i : ℕ) → i < 16
    → state_byte s 0 (m / 16) (i % 4) (8 * (2 * (i / 4) + m / 8 % 2) + m % 8) ≡ slice_index (s m) i
state_byte_at s m i low =
    let q = 8 * (2 * (i / 4) + m / 8 % 2) + m % 8 in
    let block : 16 * (m / 16) + q % 16 ≡ m = omega arith in
    let index : i % 4 + 4 * (q / 16) ≡ i = omega arith in
    xor_zero_r (cell (s (16 * (m / 16) + q % 16)) (i % 4) (q / 16))
    ∙ (λ k. slice_index (s (block k)) (index k))

-- ---- the words of a group

-- the words of the groups are the first n
pub word_inside : (n r h : ℕ) → n % 4 ≡ 0 → r < 4 → h < n / 4 → n / 4 * r + h < n
word_inside n r h whole low inside =
    each_below_4 (λ r. n / 4 * r + h < n) (omega arith) (omega arith) (omega arith) (omega arith) r low

-- k is before position `at`, or not before `end`
abbrev Outside : ℕ → ℕ → ℕ → Type 0
Outside at end k = at ≤ k → k < end → ⊥

-- w is v but for the words from position `at` up to `end`
pub record KeptOutside (at end : ℕ) (v w : List ℕ) : Type 0 where
  pub kept : (k : ℕ) → Outside at end k → slice_index w k ≡ slice_index v k

pub kept_outside : (v w : List ℕ) {at end : ℕ} → ((k : ℕ) → k < at → slice_index w k ≡ slice_index v k)
    → ((k : ℕ) → end ≤ k → slice_index w k ≡ slice_index v k) → KeptOutside at end v w
kept_outside v w {at} {end} before after = record {
  kept = λ k out.
      elim (cases_lt k at) [
        | inl low ↦ before k low
        | inr from ↦ elim (cases_lt k end) [ inl inside ↦ absurd (out from inside) | inr above ↦ after k above ]
      ];
}

pub kept_by_set : (v : List ℕ) (at x : ℕ) → KeptOutside at (at + 1) v (set v at x)
kept_by_set v at x = record {
  kept = λ k out. get_or-set_other v at k x 0 (λ e. out (omega (arith, e)) (omega (arith, e)));
}

-- a word of another group after the rows of `count` groups are written, from group g on
pub other_group : (n g count i r : ℕ) {u v w x y : List ℕ} → g + count ≤ n → i < n → Outside g (g + count) i → r < 4
    → KeptOutside g (g + count) u v → KeptOutside (n + g) (n + g + count) v w
    → KeptOutside (n * 2 + g) (n * 2 + g + count) w x → KeptOutside (n * 3 + g) (n * 3 + g + count) x y
    → slice_index y (n * r + i) ≡ slice_index u (n * r + i)
other_group n g count i r {u} {v} {w} {x} {y} fits inside other low one two three four =
    let kept : (k : ℕ) → Outside g (g + count) k → Outside (n + g) (n + g + count) k
    → Outside (n * 2 + g) (n * 2 + g + count) k → Outside (n * 3 + g) (n * 3 + g + count) k
    → slice_index y k ≡ slice_index u k =
    λ k a b c d. four.kept k d ∙ three.kept k c ∙ two.kept k b ∙ one.kept k a in
    each_below_4 (λ r. slice_index y (n * r + i) ≡ slice_index u (n * r + i))
    (kept (n * 0 + i) (λ e f. other (omega (arith, e)) (omega (arith, f))) (λ e f. omega (arith, e))
    (λ e f. omega (arith, e)) (λ e f. omega (arith, e)))
    (kept (n * 1 + i) (λ e f. omega (arith, f)) (λ e f. other (omega (arith, e)) (omega (arith, f)))
    (λ e f. omega (arith, e)) (λ e f. omega (arith, e)))
    (kept (n * 2 + i) (λ e f. omega (arith, f)) (λ e f. omega (arith, f))
    (λ e f. other (omega (arith, e)) (omega (arith, f))) (λ e f. omega (arith, e)))
    (kept (n * 3 + i) (λ e f. omega (arith, f)) (λ e f. omega (arith, f)) (λ e f. omega (arith, f))
    (λ e f. other (omega (arith, e)) (omega (arith, f))))
    r low
