-- A tweak doubled as lanes and as a number.
use Rattle.std.proofs.Common.{◌≡◌, ℕ, zero, suc, ◌+◌, ◌-◌, ◌*◌, ◌/◌, ◌%◌, ◌^◌, ◌<◌, List, [], ◌∷◌, length}
use Rattle.std.proofs.Common.{arith, refl, sym, ap, ◌∙◌, inl, inr, ltb}
use Rattle.std.proofs.Common.{true, false}
use Rattle.std.specs.Int.{w128, to_le_bytes, from_le_bytes}
use Rattle.std.specs.Int.Bits.{bit_xor, xor_zero_r, xor_shifted}
use Rattle.std.specs.Simd.Lanes.{Each1, number_l, digits_l}
use Rattle.std.proofs.Math.Nat.{div-div-eq-div-mul, div-lt_iff_lt-mul, pow-zero, pow-suc, pow-succ'}
use Rattle.std.proofs.lemmas.Nat.{xor_block, div-add-mod'}
use Rattle.std.proofs.lemmas.Bool.{lt-ltb, le-ltb, cases_lt}
use Rattle.luks_aes.proofs.Undone.{whole_state}
use Rattle.luks_cipher.specs.Xts.{doubled_number, doubled}

-- ---- the bytes of a number, as lanes and as a number

deeper : (a n p : ℕ) → a ≡ n / p → a / 256 ≡ n / (p * 256)
deeper a n p is = ap (λ m. m / 256) is ∙ div-div-eq-div-mul n p 256

pub lanes_of_number : (n : ℕ) → digits_l 256 16 n ≡ to_le_bytes w128 n
lanes_of_number n =
    let a1 : n / 256 ≡ n / 256 = refl in
    let a2 : n / 256 / 256 ≡ n / 65536 = deeper (n / 256) n 256 a1 in
    let a3 = deeper _ n 65536 a2 in
    let a4 = deeper _ n 16777216 a3 in
    let a5 = deeper _ n 4294967296 a4 in
    let a6 = deeper _ n 1099511627776 a5 in
    let a7 = deeper _ n 281474976710656 a6 in
    let a8 = deeper _ n 72057594037927936 a7 in
    let a9 = deeper _ n 18446744073709551616 a8 in
    let a10 = deeper _ n 4722366482869645213696 a9 in
    let a11 = deeper _ n 1208925819614629174706176 a10 in
    let a12 = deeper _ n 309485009821345068724781056 a11 in
    let a13 = deeper _ n 79228162514264337593543950336 a12 in
    let a14 = deeper _ n 20282409603651670423947251286016 a13 in
    let a15 = deeper _ n 5192296858534827628530496329220096 a14 in
    λ i. n % 256 ∷ n / 256 % 256 ∷ a2 i % 256 ∷ a3 i % 256 ∷ a4 i % 256 ∷ a5 i % 256 ∷ a6 i % 256 ∷ a7 i % 256 ∷ a8 i
    % 256 ∷ a9 i % 256 ∷ a10 i % 256 ∷ a11 i % 256 ∷ a12 i % 256 ∷ a13 i % 256 ∷ a14 i % 256 ∷ a15 i % 256 ∷ []

joined_lanes : (b0 b1 b2 b3 b4 b5 b6 b7 b8 b9 b10 b11 b12 b13 b14 b15 : ℕ)
    → number_l 256
    (b0 ∷ b1 ∷ b2 ∷ b3 ∷ b4 ∷ b5 ∷ b6 ∷ b7 ∷ b8 ∷ b9 ∷ b10 ∷ b11 ∷ b12 ∷ b13 ∷ b14 ∷ b15 ∷ [])
    ≡ from_le_bytes w128
    (b0 ∷ b1 ∷ b2 ∷ b3 ∷ b4 ∷ b5 ∷ b6 ∷ b7 ∷ b8 ∷ b9 ∷ b10 ∷ b11 ∷ b12 ∷ b13 ∷ b14 ∷ b15 ∷ [])
joined_lanes b0 b1 b2 b3 b4 b5 b6 b7 b8 b9 b10 b11 b12 b13 b14 b15 = omega arith

pub number_of_lanes : (bs : List ℕ) → length bs ≡ 16 → number_l 256 bs ≡ from_le_bytes w128 bs
number_of_lanes bs long =
    let whole = whole_state bs long in
    ap (number_l 256) whole
    ∙ joined_lanes _ _ _ _ _ _ _ _ _ _ _ _ _ _ _ _
    ∙ ap (from_le_bytes w128) (sym whole)

pub lanes_fit : (bs : List ℕ) → Each1 (λ x. x < 256) bs → number_l 256 bs < 256 ^ length bs
lanes_fit [] all = rw (pow-zero 256) (omega arith)
lanes_fit (b ∷ bs) all =
    let rest = lanes_fit bs all.1 in
    rw (pow-succ' 256 (length bs)) (omega (arith, all.0, rest))

-- ---- the doubled halves of a number

-- the bit that leaves the low half becomes the lowest bit of the doubled high half
carried_up : (low high : ℕ) → low < 2 ^ 64 → bit_xor (high * 2 % 2 ^ 64) (low / 2 ^ 63 * 1 % 2 ^ 64)
    ≡ high % 2 ^ 63 * 2 + low / 2 ^ 63
carried_up low high fits =
    let up : high * 2 % 2 ^ 64 ≡ high % 2 ^ 63 * 2 = omega arith in
    let bit : low / 2 ^ 63 * 1 % 2 ^ 64 ≡ low / 2 ^ 63 = omega arith in
    (λ i. bit_xor (up i) (bit i)) ∙ xor_shifted (high % 2 ^ 63) 1 (low / 2 ^ 63) (omega arith)

-- both doubled halves make the doubled number
halves_doubled : (low high : ℕ) → low < 2 ^ 64 → high < 2 ^ 64
    → bit_xor (low * 2 % 2 ^ 64) (high / 2 ^ 63 * 0x87 % 2 ^ 64) + 2 ^ 64 * (high % 2 ^ 63 * 2 + low / 2 ^ 63)
    ≡ doubled_number (low + 2 ^ 64 * high)
unfolding doubled_number
halves_doubled low high fits also =
    let n = low + 2 ^ 64 * high in
    let up = high % 2 ^ 63 * 2 + low / 2 ^ 63 in
    let rest = low * 2 % 2 ^ 64 in
    elim (cases_lt high (2 ^ 63)) [
      | inl below ↦
          let test : ltb n (2 ^ 127) ≡ true = lt-ltb n (2 ^ 127) (omega arith) in
          let none : high / 2 ^ 63 * 0x87 % 2 ^ 64 ≡ 0 = omega arith in
          let whole : rest + 2 ^ 64 * up ≡ 2 * n = omega arith in
          rw test (ap (λ m. m + 2 ^ 64 * up) (ap (bit_xor rest) none ∙ xor_zero_r rest) ∙ whole)
      | inr above ↦
          let test : ltb n (2 ^ 127) ≡ false = le-ltb n (2 ^ 127) (omega arith) in
          let one : high / 2 ^ 63 * 0x87 % 2 ^ 64 ≡ 0x87 = omega arith in
          let whole : 2 * n - 2 ^ 128 ≡ up * 2 ^ 64 + rest = omega arith in
          let turned : bit_xor rest 0x87 + 2 ^ 64 * up ≡ up * 2 ^ 64 + bit_xor rest 0x87 = omega arith in
          rw test
          (ap (λ m. bit_xor rest m + 2 ^ 64 * up) one
          ∙ turned
          ∙ sym (ap (λ m. bit_xor m 0x87) whole
          ∙ xor_block 64 up 0 rest 0x87 (omega arith) (omega arith)
          ∙ ap (λ m. m * 2 ^ 64 + bit_xor rest 0x87) (xor_zero_r up)))
    ]

doubled_halves : (low high : ℕ) → low < 2 ^ 64 → high < 2 ^ 64
    → number_l (2 ^ 64)
    (bit_xor (low * 2 % 2 ^ 64) (high / 2 ^ 63 * 0x87 % 2 ^ 64) ∷ bit_xor (high * 2 % 2 ^ 64) (low / 2 ^ 63 * 1 % 2 ^
    64) ∷ [])
    ≡ doubled_number (low + 2 ^ 64 * high)
doubled_halves low high fits also =
    let first = bit_xor (low * 2 % 2 ^ 64) (high / 2 ^ 63 * 0x87 % 2 ^ 64) in
    let flat : first + 2 ^ 64 * (high % 2 ^ 63 * 2 + low / 2 ^ 63 + 2 ^ 64 * 0)
    ≡ first + 2 ^ 64 * (high % 2 ^ 63 * 2 + low / 2 ^ 63) = omega arith in
    ap (λ m. first + 2 ^ 64 * (m + 2 ^ 64 * 0)) (carried_up low high fits) ∙ flat ∙ halves_doubled low high fits also

-- the digits of a number make it again
number_of_digits : (p n x : ℕ) → 0 < p → x < p ^ n → number_l p (digits_l p n x) ≡ x
number_of_digits p zero x some small = omega (arith, pow-zero p)
number_of_digits p (suc n) x some small =
    let less : x / p < p ^ n = (div-lt_iff_lt-mul some).1 (rw (← pow-suc p n) small) in
    rw (number_of_digits p n (x / p) some less) (omega (arith, div-add-mod' x p))

-- the carries of words 1 and 3, as the code moves them
abbrev carries : ℕ → ℕ → ℕ → ℕ → List ℕ
carries a b c d =
    d / 2 ^ 31 * 0x87 % 2 ^ 32 ∷ a / 2 ^ 31 * 0 % 2 ^ 32 ∷ b / 2 ^ 31 * 1 % 2 ^ 32 ∷ c / 2 ^ 31 * 0 % 2 ^ 32 ∷ []

-- they are those of both halves
carries_of_halves : (a b c d : ℕ) → a < 2 ^ 32 → b < 2 ^ 32 → c < 2 ^ 32 → d < 2 ^ 32
    → number_l (2 ^ 32) (carries a b c d)
    ≡ (c + 2 ^ 32 * d) / 2 ^ 63 * 0x87 + 2 ^ 64 * ((a + 2 ^ 32 * b) / 2 ^ 63)
carries_of_halves a b c d first second third fourth =
    let top : (c + 2 ^ 32 * d) / 2 ^ 63 ≡ d / 2 ^ 31 = omega arith in
    let middle : (a + 2 ^ 32 * b) / 2 ^ 63 ≡ b / 2 ^ 31 = omega arith in
    rw (top, middle) (omega arith)

-- the bytes that the code computes from both halves are those of the doubled tweak
pub doubled_lanes : (tweak : List ℕ) → length tweak ≡ 16 → Each1 (λ x. x < 256) tweak
    → (low high a b c d carried : ℕ)
    → low ≡ number_l 256 tweak % 2 ^ 64 → high ≡ number_l 256 tweak / 2 ^ 64 % 2 ^ 64
    → a ≡ number_l 256 tweak % 2 ^ 32 → b ≡ number_l 256 tweak / 2 ^ 32 % 2 ^ 32
    → c ≡ number_l 256 tweak / 2 ^ 32 / 2 ^ 32 % 2 ^ 32 → d ≡ number_l 256 tweak / 2 ^ 32 / 2 ^ 32 / 2 ^ 32 % 2 ^ 32
    → carried ≡ number_l 256 (digits_l 256 16 (number_l (2 ^ 32) (carries a b c d)))
    → digits_l 256 16 (number_l (2 ^ 64)
    (bit_xor (low * 2 % 2 ^ 64) (carried % 2 ^ 64) ∷ bit_xor (high * 2 % 2 ^ 64) (carried / 2 ^ 64 % 2 ^ 64) ∷ []))
    ≡ doubled tweak
unfolding doubled
doubled_lanes tweak long bytes low high a b c d carried is_low is_high is_a is_b is_c is_d is =
    let n = number_l 256 tweak in
    let fits : n < 2 ^ 128 = rw long at (lanes_fit tweak bytes) in
    let parts : low + 2 ^ 64 * high ≡ n = omega arith in
    let lower : low ≡ a + 2 ^ 32 * b = omega (arith, is_low, is_a, is_b) in
    let upper : high ≡ c + 2 ^ 32 * d = omega (arith, is_high, is_c, is_d, fits) in
    let both = carries_of_halves a b c d (omega (arith, is_a)) (omega (arith, is_b)) (omega (arith, is_c))
    (omega (arith, is_d)) in
    let sum : number_l (2 ^ 32) (carries a b c d) ≡ high / 2 ^ 63 * 0x87 + 2 ^ 64 * (low / 2 ^ 63) =
    rw (lower, upper) both in
    let whole : carried ≡ high / 2 ^ 63 * 0x87 + 2 ^ 64 * (low / 2 ^ 63) =
    is ∙ number_of_digits 256 16 _ (omega arith) (rw sum (omega (arith, is_low, is_high))) ∙ sum in
    let first : carried % 2 ^ 64 ≡ high / 2 ^ 63 * 0x87 % 2 ^ 64 = omega (arith, whole, is_high) in
    let second : carried / 2 ^ 64 % 2 ^ 64 ≡ low / 2 ^ 63 * 1 % 2 ^ 64 = omega (arith, whole, is_low, is_high) in
    lanes_of_number _
    ∙ ap (to_le_bytes w128)
    (rw (first, second) (doubled_halves low high (omega (arith, is_low)) (omega (arith, is_high)))
    ∙ ap doubled_number (parts ∙ number_of_lanes tweak long))
