-- The field of 256 elements in which AES computes (FIPS 197, update of 2023, section 4). A byte represents the
-- polynomial whose coefficients are its bits; the lowest bit is the constant term. Polynomials are reduced modulo
-- m(x) = x^8 + x^4 + x^3 + x + 1, which is 0x11b.
use Rattle.std.specs.Prelude.{ℕ, zero, suc, ◌*◌, ◌/◌, ◌%◌, Bool, nat_lt, ◌==◌, bit_xor, unwrap_or, if◌then◌else◌, List}
use Rattle.std.specs.List.{find, range_with_len}

-- addition (4.1)
infixl 65 ◌⊕◌
abbrev pub ◌⊕◌ : ℕ → ℕ → ℕ
a ⊕ b = bit_xor a b

-- b times x: if the degree reaches 8, m(x) is subtracted (XTIMES, 4.2)
unfoldable pub times_x : ℕ → ℕ
times_x b = if nat_lt b 128 then 2 * b else (2 * b) ⊕ 0x11b

-- the XOR of b times x^i, over the set bits i among the n lowest bits of a
unfoldable pub product_of_bits : ℕ → ℕ → ℕ → ℕ
product_of_bits zero a b = 0
product_of_bits (suc n) a b = (if a % 2 == 1 then b else 0) ⊕ product_of_bits n (a / 2) (times_x b)

-- the product of two elements; the first has 8 bits (4.2)
infixl 70 ◌•◌
unfoldable pub ◌•◌ : ℕ → ℕ → ℕ
a • b = product_of_bits 8 a b

-- x^n
unfoldable pub power_of_x : ℕ → ℕ
power_of_x zero = 1
power_of_x (suc n) = times_x (power_of_x n)

-- the elements, which are the numbers below 256
abbrev pub elements : List ℕ
elements = range_with_len 0 256

-- the element that passes the test, or 0 if none does
abbrev pub the_element : (ℕ → Bool) → ℕ
the_element test = unwrap_or (find test elements) 0

-- the element whose product with b is 1, and 0 for 0 (4.4)
unfoldable pub inverse : ℕ → ℕ
inverse b = the_element (λ c. b • c == 1)
