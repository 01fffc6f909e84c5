-- Sectors of a payload: which ones are whole, and how the payload ends.
use Rattle.std.proofs.Common.{◌≡◌, ℕ, ◌+◌, ◌-◌, ◌*◌, ◌/◌, ◌%◌, ◌^◌, ◌<◌, ◌≤◌, Option, None, Some, Result, Ok, Err, Bool}
use Rattle.std.proofs.Common.{true, false, ap, sym, refl, min, arith}
use Rattle.std.specs.Prelude.{nat_lt, ◌==◌, if◌then◌else◌}
use Rattle.std.specs.Option.{ForSome}
use Rattle.std.proofs.lemmas.Bool.{le-ltb}
use Rattle.std.proofs.lemmas.Nat.{div-mul-add}
use Rattle.std.proofs.Math.Nat.{div-mul-le_self, mod-eq-sub-div-mul, le-div_iff_mul-le, mul-le-mul_right}
use Rattle.std.proofs.Math.Nat.{mul-le-mul_left, zero-div}
use Rattle.luks_payload.specs.PumpEffects.{max_sectors_of}
use Rattle.luks_payload.specs.Plain.{ending_of_len, payload_bytes}
use Rattle.luks_payload.specs.declared.fault.PayloadFault.{PayloadFault}
use Rattle.luks_payload.specs.declared.fault.PayloadFault.TheVariants.{Tail, Short}
use Rattle.luks_payload.specs.declared.state.Step.{Step}
use Rattle.luks_payload.specs.declared.state.Step.TheVariants.{End}

-- the end of a payload of this size at this offset, in an image of `len` bytes
abbrev pub payload_end_in : Option ℕ → ℕ → ℕ → ℕ
payload_end_in size offset len = min len (offset + payload_bytes size (len - offset))

-- if n is below the number of whole sectors, n sectors and one more fit
pub one_more_fits : (n size z : ℕ) → n < size / z → n * z + z ≤ size
one_more_fits n size z below =
    let more : n + 1 ≤ size / z = omega arith in
    let all = mul-le-mul_right z more in
    omega (arith, div-mul-le_self size z, all)

-- if n sectors fit, there are at least n whole sectors
pub fit : (n len z : ℕ) → 0 < z → n * z ≤ len → n ≤ len / z
fit n len z some all = (le-div_iff_mul-le {k = z} {x = n} {y = len} some).1 all

module _ (z : ℕ) (some : 0 < z) where
  -- sector n is one of the payload's if n is below the limit and the image has its bytes
  pub is_whole : (size : Option ℕ) (n len : ℕ) → n < max_sectors_of size z → n * z + z ≤ len
      → n < payload_bytes size len / z
  is_whole None n len below there = omega (arith, fit (n + 1) len z some (omega arith))
  is_whole (Some size) n len below there =
      let whole = one_more_fits n size z below in
      omega (arith, fit (n + 1) (min size len) z some (omega arith))

  -- an offset before the end of sector n is not past the payload's end
  pub is_within : (size : Option ℕ) (n start len offset : ℕ) → n < max_sectors_of size z → offset < start + (n * z + z)
      → offset ≤ len → offset ≤ payload_end_in size start len
  is_within None n start len offset below before there = omega arith
  is_within (Some size) n start len offset below before there =
      let whole = one_more_fits n size z below in
      omega arith

  -- if the next sector is incomplete, the sectors before it are all of the payload's, which ends with the image
  pub at_torn : (size : Option ℕ) (n more offset : ℕ) → n < max_sectors_of size z → more < z
      → (n ≡ payload_bytes size (n * z + more) / z)
      × (payload_end_in size offset (offset + (n * z + more)) ≡ offset + (n * z + more))
  at_torn None n more offset below torn = (sym (div-mul-add n z more torn), omega arith)
  at_torn (Some size) n more offset below torn =
      let whole = one_more_fits n size z below in
      let least : min size (n * z + more) ≡ n * z + more = omega arith in
      (rw least (sym (div-mul-add n z more torn)), omega arith)

  -- at the limit, if the image has fewer than 2^64 bytes, the payload has all its sectors, and ends without a fault
  -- where its last sector does
  pub at_limit : (size : Option ℕ) (n offset total : ℕ) → 512 ≤ z → ForSome size (λ bytes. bytes % z ≡ 0)
      → n ≡ max_sectors_of size z → offset + n * z ≤ total → total < 2 ^ 64
      → (n ≡ payload_bytes size (total - offset) / z) × (ending_of_len size z (total - offset) ≡ Ok End)
      × (payload_end_in size offset total ≡ offset + n * z)
  at_limit None n offset total least whole is there few =
      let many : n * 512 ≤ n * z = mul-le-mul_left n least in
      absurd (omega arith)
  at_limit (Some size) n offset total least whole is there few =
      let exact : size % z ≡ 0 = whole size refl in
      let product : n * z ≡ size / z * z = ap (λ k. k * z) is in
      let all : n * z ≡ size = omega (arith, mod-eq-sub-div-mul size z, div-mul-le_self size z) in
      let smaller : min size (total - offset) ≡ size = omega arith in
      let enough : nat_lt (total - offset) size ≡ false = le-ltb (total - offset) size (omega arith) in
      (rw smaller is, rw enough refl, omega arith)

-- if the image has no bytes of a payload, the payload has no sectors
pub none_whole : (size : Option ℕ) (z : ℕ) → payload_bytes size 0 / z ≡ 0
none_whole None z = zero-div z
none_whole (Some size) z =
    let none : min size 0 ≡ 0 = omega arith in
    rw none (zero-div z)

-- a property of both outcomes of a test holds for its result
by_test : (P : Result Step PayloadFault → Type 0) (b : Bool) (x y : Result Step PayloadFault) → P x → P y
    → P (if b then x else y)
by_test P true x y p q = p
by_test P false x y p q = q

-- a property of every possible ending holds for the ending of a payload whose image reaches its start
pub by_ending : (P : Result Step PayloadFault → Type 0) → P (Ok End) → ((n : ℕ) → P (Err (Tail n)))
    → ((n : ℕ) → P (Err (Short n))) → (size : Option ℕ) (z len : ℕ) → P (ending_of_len size z len)
by_ending P end tail short None z len =
    by_test P (len % z == 0) (Ok End) (Err (Tail (len % z))) end (tail (len % z))
by_ending P end tail short (Some size) z len =
    by_test P (nat_lt len size) (Err (Short (size - len))) (Ok End) (short (size - len)) end
