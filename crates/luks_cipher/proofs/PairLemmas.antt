-- Two data units of 512 bytes that are decrypted at once, and data units that follow one another.
use Rattle.std.proofs.Common.{◌≡◌, ℕ, ◌+◌, ◌*◌, ◌/◌, ◌<◌, List, ◌++◌, length, take, drop, arith, refl, sym, ◌≤◌}
use Rattle.std.proofs.Common.{◌^◌, ◌%◌, ap, length-append, length-drop, ◌∙◌}
use Rattle.std.proofs.lemmas.List.{length-take, take_all, take_at, drop_at, drop-drop, drop-take}
use Rattle.std.proofs.lemmas.List.{take-take, take-append-le}
use Rattle.std.proofs.lemmas.Slice.{take-put_mid}
use borrow.Rule.Slice.PartMut.{mid_of, put_mid, same_len_mid}
use Rattle.luks_cipher.specs.Xts.{block_at, block_decrypted, tweak_after, tweak_of, xts_decrypted}
use Rattle.luks_kdf.specs.Bytes.{joined}
use Rattle.luks_cipher.specs.Sector.{sector_decrypted}
use Rattle.luks_cipher.specs.declared.mode.Mode.{Mode}
use Rattle.luks_cipher.specs.Cbc.{cbc_decrypted}
use Rattle.luks_cipher.proofs.UnitLemmas.{IsDoneBefore, block_of_part, block_of_rest, done_many, done_more}
use Rattle.luks_cipher.proofs.UnitLemmas.{from_blocks, tweaks_of_unit}
use Rattle.luks_kdf.proofs.BytesLemmas.{joined_more, joined_same}

-- ---- two data units of 512 bytes

-- the blocks of both are joined, where those of the first are f and those of the second are g
pub both_joined : (f g : ℕ → List ℕ) (units : List ℕ) → length units ≡ 1024
    → ((j : ℕ) → j < 32 → block_at units j ≡ f j) → ((j : ℕ) → j < 32 → block_at units (32 + j) ≡ g j)
    → units ≡ joined f 32 ++ joined g 32
both_joined f g units long first second =
    from_blocks units (block_at units) 64 long (λ j low. refl)
    ∙ joined_more (block_at units) 32 32
    ∙ (λ i. joined_same (block_at units) f 32 first i ++ joined_same (λ j. block_at units (32 + j)) g 32 second i)

-- two data units become `new`, block by block by g from an own value and from what they were; the own values are t for
-- the first and u for the second
pub both_done : (g : List ℕ → List ℕ → List ℕ) (t u : ℕ → List ℕ) (units new own : List ℕ) → length units ≡ 1024
    → length new ≡ 1024 → ((n : ℕ) → 16 * n < length units → block_at new n ≡ g (block_at own n) (block_at units n))
    → ((j : ℕ) → j < 32 → block_at own j ≡ t j) → ((j : ℕ) → j < 32 → block_at own (32 + j) ≡ u j)
    → new ≡ joined (λ j. g (t j) (block_at (take 512 units) j)) (length (take 512 units) / 16)
    ++ joined (λ j. g (u j) (block_at (drop 512 units) j)) (length (drop 512 units) / 16)
both_done g t u units new own long same each first second =
    let f : ℕ → List ℕ = λ j. g (t j) (block_at (take 512 units) j) in
    let h : ℕ → List ℕ = λ j. g (u j) (block_at (drop 512 units) j) in
    let front : 32 ≡ length (take 512 units) / 16 = omega (arith, length-take 512 units) in
    let back : 32 ≡ length (drop 512 units) / 16 = omega (arith, length-drop 512 units) in
    both_joined f h new same
    (λ j low. each j (omega arith) ∙ (λ i. g (first j low i) (sym (block_of_part units j 512 (omega arith)) i)))
    (λ j low. each (32 + j) (omega arith) ∙ (λ i. g (second j low i) (sym (block_of_rest units 32 j) i)))
    ∙ (λ i. joined f (front i) ++ joined h (back i))

-- a block of two lists of 512 bytes, joined
pub first_of_both : (a b : List ℕ) (j : ℕ) → length a ≡ 512 → j < 32 → block_at (a ++ b) j ≡ block_at a j
first_of_both a b j long low =
    sym (block_of_part (a ++ b) j 512 (omega arith)) ∙ ap (λ x. block_at x j) (take_at a b 512 long)

pub second_of_both : (a b : List ℕ) (j : ℕ) → length a ≡ 512 → block_at (a ++ b) (32 + j) ≡ block_at b j
second_of_both a b j long = sym (block_of_rest (a ++ b) 32 j) ∙ ap (λ x. block_at x j) (drop_at a b 512 long)

-- ---- the chains of two data units of 512 bytes

-- the second chain is written over the block after those before the first unit's blocks
pub both_chains : (low high rest : List ℕ) (k : ℕ) → length low ≡ 528 → length high ≡ 528 → length rest ≡ 512 → k ≡ 528
    → put_mid 512 k (low ++ rest) high ≡ take 512 low ++ high
both_chains low high rest k long same others size =
    let all = low ++ rest in
    let whole : length all ≡ 1040 = omega (arith, length-append low rest) in
    let fits : length high ≡ length (mid_of 512 k all) =
    omega (arith, length-take k (drop 512 all), length-drop 512 all) in
    sym (take_all 1040 (put_mid 512 k all high) (omega (arith, same_len_mid 512 k all high fits)))
    ∙ take-put_mid 512 k all high 1040 (omega arith) (omega arith)
    ∙ ap (λ x. x ++ high) (take-append-le 512 low rest (omega arith))

-- the same from equal IVs
pub equal_chains : (key v w v2 w2 a b new : List ℕ) → v ≡ w → v2 ≡ w2
    → new ≡ cbc_decrypted key v a ++ cbc_decrypted key v2 b → new ≡ cbc_decrypted key w a ++ cbc_decrypted key w2 b
equal_chains key v w v2 w2 a b new first second is =
    is ∙ (λ i. cbc_decrypted key (first i) a ++ cbc_decrypted key (second i) b)

-- ---- the tweaks of a data unit of 512 bytes

pub unit_tweaks : (key tweak tweaks : List ℕ) (number : ℕ) → tweak ≡ tweak_of key number 0
    → ((j : ℕ) → j < 32 → block_at tweaks j ≡ tweak_after tweak j)
    → (j : ℕ) → j < 32 → block_at tweaks j ≡ tweak_of key number j
unit_tweaks key tweak tweaks number first each j low = each j low ∙ tweaks_of_unit key tweak number j first

-- a data unit that is decrypted under the tweaks from the first on
pub decrypted_from : (key tweak unit : List ℕ) (number : ℕ) → tweak ≡ tweak_of key number 0
    → joined (λ n. block_decrypted key (tweak_after tweak n) (block_at unit n)) (length unit / 16)
    ≡ xts_decrypted key number unit
unfolding xts_decrypted
decrypted_from key tweak unit number first =
    joined_same (λ n. block_decrypted key (tweak_after tweak n) (block_at unit n))
    (λ n. block_decrypted key (tweak_of key number n) (block_at unit n)) (length unit / 16)
    (λ n low. ap (λ t. block_decrypted key t (block_at unit n)) (tweaks_of_unit key tweak number n first))

-- ---- data units that follow one another

-- unit number i, decrypted by itself
abbrev pub unit_in : Mode → List ℕ → ℕ → ℕ → List ℕ → ℕ → List ℕ
unit_in mode key first size units i =
    sector_decrypted mode key ((first + i * (size / 512)) % 2 ^ 64) (take size (drop (i * size) units))

-- the units before number n are decrypted, and the others are as they were
abbrev pub AreDecrypted : Mode → List ℕ → ℕ → ℕ → List ℕ → List ℕ → ℕ → Type 0
AreDecrypted mode key first size old now n = IsDoneBefore size (unit_in mode key first size old) old now n

-- one more unit is decrypted
pub one_decrypted : (mode : Mode) (key : List ℕ) (first size : ℕ) (old now new : List ℕ) (j number m a k : ℕ)
    → AreDecrypted mode key first size old now j → m ≡ j + 1 → a ≡ size * j → k ≡ size
    → number ≡ (first + j * (size / 512)) % 2 ^ 64 → size * (j + 1) ≤ length now → length new ≡ size
    → new ≡ sector_decrypted mode key number (take k (drop a now))
    → AreDecrypted mode key first size old (put_mid a k now new) m
one_decrypted mode key first size old now new j number m a k before next here wide is_number within long is =
    let there : size * j ≡ j * size = omega arith in
    let back : drop a now ≡ drop (j * size) old = rw here (before.left ∙ ap (λ i. drop i old) there) in
    done_more size (unit_in mode key first size old) old now new a k j m next here wide before within long
    (is ∙ (λ i. sector_decrypted mode key (is_number i) (take (wide i) (back i))))

-- two more units of 512 bytes are decrypted
pub two_decrypted : (mode : Mode) (key : List ℕ) (first : ℕ) (old now new : List ℕ) (i number k : ℕ)
    → AreDecrypted mode key first 512 old now (2 * i) → 1024 * i + 1024 ≤ length now
    → number ≡ (first + 2 * i) % 2 ^ 64 → k ≡ 1024 → length new ≡ k
    → new ≡ sector_decrypted mode key number (take 512 (take k (drop (1024 * i) now)))
    ++ sector_decrypted mode key ((number + 1) % 2 ^ 64) (drop 512 (take k (drop (1024 * i) now)))
    → AreDecrypted mode key first 512 old (put_mid (1024 * i) k now new) (2 * (i + 1))
unfolding joined
two_decrypted mode key first old now new i number k before within is_number wide long is =
    let a = 1024 * i in
    let here : a ≡ 512 * (2 * i) = omega arith in
    let back : drop a now ≡ drop a old = rw here before.left in
    let number_of_first : number ≡ (first + (2 * i + 0) * 1) % 2 ^ 64 = omega arith in
    let number_of_second : (number + 1) % 2 ^ 64 ≡ (first + (2 * i + 1) * 1) % 2 ^ 64 = omega arith in
    let first_at : a ≡ (2 * i + 0) * 512 = omega arith in
    let second_at : a + 512 ≡ (2 * i + 1) * 512 = omega arith in
    let first_unit : take 512 (take k (drop a now)) ≡ take 512 (drop ((2 * i + 0) * 512) old) =
    ap (λ x. take 512 (take x (drop a now))) wide ∙ take-take 512 1024 (drop a now) (omega arith)
    ∙ ap (take 512) (back ∙ ap (λ x. drop x old) first_at) in
    let second_unit : drop 512 (take k (drop a now)) ≡ take 512 (drop ((2 * i + 1) * 512) old) =
    ap (λ x. drop 512 (take x (drop a now))) wide ∙ drop-take 512 512 (drop a now)
    ∙ ap (take 512) (ap (drop 512) back ∙ drop-drop 512 a old ∙ ap (λ x. drop x old) second_at) in
    done_many 512 (unit_in mode key first 512 old) old now new a k (2 * i) 2 (2 * (i + 1)) (omega arith) here
    (omega arith) before (omega arith) (omega arith)
    (is ∙ (λ j. sector_decrypted mode key (number_of_first j) (first_unit j)
    ++ sector_decrypted mode key (number_of_second j) (second_unit j)))
