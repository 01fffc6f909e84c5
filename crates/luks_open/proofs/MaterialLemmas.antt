-- Key material that is decrypted two sectors at a time, and merged a stripe at a time.
use Rattle.std.proofs.Common.{◌^◌}
use Rattle.std.proofs.Common.{◌≡◌, ◌∙◌, ℕ, zero, suc, ◌+◌, ◌-◌, ◌*◌, ◌/◌, ◌%◌, ◌<◌, ◌≤◌, ◌⊎◌, inl, inr, true, List}
use Rattle.std.proofs.Common.{◌++◌, length, replicate, take, drop, refl, sym, ap, append_assoc, mul_assoc, arith}
use Rattle.std.proofs.Common.{length-append, length-drop}
use Rattle.std.proofs.Math.Nat.{add-mul, mod-lt, mul-le-mul_right, mul_comm}
use Rattle.std.proofs.Math.Seq.{take-add, take-append-add}
use Rattle.std.proofs.lemmas.Bool.Decides.{nat_tests}
use Rattle.std.proofs.lemmas.Nat.{div-add-mod'}
use Rattle.std.proofs.lemmas.List.{drop-drop, length-take-le, take-append-le, take_all}
use Rattle.luks_format.proofs.FieldLemmas.{at_prefix}
use Rattle.luks_cipher.specs.Sector.{Cipher, is_key_length, sector_decrypted, units_decrypted}
use Rattle.luks_kdf.specs.Bytes.{joined}
use Rattle.luks_cipher.proofs.ModeLemmas.{length-sector_decrypted}
use Rattle.luks_kdf.proofs.BytesLemmas.{joined_more, joined_same}
use Rattle.luks_kdf.specs.declared.hash.Hash.{Hash}
use Rattle.luks_kdf.specs.Bytes.{xor}
use Rattle.luks_kdf.specs.Stripes.{AfSplitterModel, splitter_after, splitter_with, merged}
use Rattle.luks_kdf.proofs.StripesLemmas.{splitter_push, splitter_start, length-merged, merged_push}
use Rattle.luks_format.specs.Rule.{key_material_len}
use Rattle.luks_open.specs.Candidate.{decrypted_material, material_sector, recovered}

-- a key is 16, 32 or 64 bytes long
one_of_three : (len : ℕ) → is_key_length len ≡ true → (len ≡ 16) ⊎ (len ≡ 32) ⊎ (len ≡ 64)
one_of_three len is = grind (arith, nat_tests)

-- a property of 16, 32 and 64 is one of the length of every key
by_length : (P : ℕ → Type 0) → P 16 → P 32 → P 64 → (len : ℕ) → is_key_length len ≡ true → P len
by_length P a b c len is = of_three (one_of_three len is)
  where
    of_three : (len ≡ 16) ⊎ (len ≡ 32) ⊎ (len ≡ 64) → P len
    of_three (inl h) = rw h a
    of_three (inr (inl h)) = rw h b
    of_three (inr (inr h)) = rw h c

-- a key has at least one byte
pub some_bytes : (len : ℕ) → is_key_length len ≡ true → 1 ≤ len
some_bytes = by_length (λ n. 1 ≤ n) (omega arith) (omega arith) (omega arith)

-- how stripes lie in pairs of sectors: the stripes before the last one fill `pairs` of them, and `rest` more of them
-- and the last one are in the next `left` bytes, one sector or two
pub record AreInPairs (len stripes pairs rest left : ℕ) : Type 0 where
  -- whole stripes fill a pair
  pub fits : 1024 / len * len ≡ 1024
  -- all these sectors are within the key material
  pub there : 1024 * pairs + left ≤ key_material_len len stripes
  pub whole : left ≡ 512 * (left / 512)
  pub within : rest * len + len ≤ left
  pub few : left ≤ 1024
  pub before : (pairs * (1024 / len) + rest) * len ≡ pairs * 1024 + rest * len
  pub all : len * stripes ≡ pairs * 1024 + (rest * len + len)

pub in_pairs : (len stripes pairs rest left : ℕ) → is_key_length len ≡ true → 1 ≤ stripes
    → pairs ≡ (stripes - 1) / (1024 / len) → rest ≡ (stripes - 1) % (1024 / len)
    → left ≡ (rest * len + len + 511) / 512 * 512 → AreInPairs len stripes pairs rest left
unfolding key_material_len
in_pairs len stripes pairs rest left is some is_pairs is_rest is_left =
    let each = 1024 / len in
    let whole : (each * len ≡ 1024) × (0 < each) =
    by_length (λ n. (1024 / n * n ≡ 1024) × (0 < 1024 / n)) (refl, omega arith) (refl, omega arith) (refl, omega arith)
    len is in
    let split : stripes ≡ (pairs * each + rest) + 1 =
    rw (is_pairs, is_rest) (omega (arith, div-add-mod' (stripes - 1) each)) in
    let before : (pairs * each + rest) * len ≡ pairs * 1024 + rest * len =
    add-mul (pairs * each) rest len
    ∙ ap (λ n. n + rest * len) (mul_assoc pairs each len ∙ ap (λ n. pairs * n) whole.0) in
    let all : len * stripes ≡ pairs * 1024 + (rest * len + len) =
    mul_comm len stripes ∙ ap (λ n. n * len) split ∙ add-mul (pairs * each + rest) 1 len ∙ omega (arith, before) in
    let less : rest < each = rw is_rest (mod-lt (stripes - 1) whole.1) in
    let few : rest * len + len ≤ 1024 = omega (arith, mul-le-mul_right len less, whole.0) in
    record {
      fits = whole.0;
      there = omega (arith, all, is_left);
      whole = omega (arith, is_left);
      within = omega (arith, is_left);
      few = omega (arith, is_left, few);
      before = before;
      all = all;
    }

-- the splitter after one more stripe
pub stripe_absorbed : (h : Hash) (len : ℕ) (before stripes stripe : List ℕ) (number i : ℕ) (splitter : AfSplitterModel)
    → (i + 1) * len ≤ length stripes → length before ≡ number * len → stripe ≡ take len (drop (i * len) stripes)
    → splitter ≡ splitter_after h len (before ++ take (i * len) stripes) (number + i)
    → splitter_with splitter stripe ≡ splitter_after h len (before ++ take ((i + 1) * len) stripes) (number + (i + 1))
stripe_absorbed h len before stripes stripe number i splitter there whole is_stripe is =
    let prefix = take (i * len) stripes in
    let one : length stripe ≡ len = ap length is_stripe
    ∙ length-take-le len (drop (i * len) stripes) (omega (arith, length-drop (i * len) stripes)) in
    let all : length (before ++ prefix) ≡ (number + i) * len =
    omega (arith, length-append before prefix, length-take-le (i * len) stripes (omega arith)) in
    let further : (before ++ prefix) ++ stripe ≡ before ++ take ((i + 1) * len) stripes =
    append_assoc before prefix stripe ∙ ap (λ s. before ++ s) (ap (λ s. prefix ++ s) is_stripe
    ∙ (sym (take-add (i * len) len stripes) ∙ ap (λ n. take n stripes) (next i len))) in
    let count : number + i + 1 ≡ number + (i + 1) = omega arith in
    splitter_push h len (before ++ prefix) stripe (number + i) splitter all one is
    ∙ (ap (λ s. splitter_after h len s (number + i + 1)) further
    ∙ ap (λ n. splitter_after h len (before ++ take ((i + 1) * len) stripes) n) count)
  where
    next : (i len : ℕ) → i * len + len ≡ (i + 1) * len
    next i len = omega arith

-- the first bytes of pieces of 512 bytes: q pieces, and a part of the next k
prefix_of_joined : (f : ℕ → List ℕ) (q k n part : ℕ) → q + k ≤ n → length (joined f q) ≡ q * 512
    → part ≤ length (joined (λ m. f (q + m)) k)
    → take (q * 512 + part) (joined f n) ≡ joined f q ++ take part (joined (λ m. f (q + m)) k)
prefix_of_joined f q k n part below whole short =
    let next = joined (λ m. f (q + m)) k in
    let rest = joined (λ m. f (q + k + m)) (n - (q + k)) in
    let count : q + k + (n - (q + k)) ≡ n = omega arith in
    let all : joined f n ≡ joined f q ++ (next ++ rest) =
    ap (joined f) (sym count) ∙ (joined_more f (q + k) (n - (q + k))
    ∙ (ap (λ x. x ++ rest) (joined_more f q k) ∙ append_assoc (joined f q) next rest)) in
    ap (take (q * 512 + part)) all ∙ (ap (λ n. take (n + part) (joined f q ++ (next ++ rest))) (sym whole)
    ∙ (take-append-add (joined f q) (next ++ rest) part
    ∙ ap (λ s. joined f q ++ s) (take-append-le part next rest short)))

-- the length with one more pair of sectors
pub length-joined_more : (f : ℕ → List ℕ) (i : ℕ) (pair : List ℕ) → length (joined f (2 * i)) ≡ i * 1024
    → pair ≡ joined (λ m. f (2 * i + m)) 2 → length pair ≡ 1024 → length (joined f (2 * (i + 1))) ≡ (i + 1) * 1024
length-joined_more f i pair before is whole =
    let next : 2 * (i + 1) ≡ 2 * i + 2 = omega arith in
    let more = joined (λ m. f (2 * i + m)) 2 in
    let one = ap length is in
    rw (next, joined_more f (2 * i) 2) (omega (arith, length-append (joined f (2 * i)) more))

-- the sectors of key material that the image contains
length-sectors : (key : Cipher) (image : List ℕ) (offset n : ℕ) → offset + 512 * n ≤ length image
    → length (joined (material_sector key image offset) n) ≡ n * 512
unfolding joined
length-sectors key image offset zero there = refl
length-sectors key image offset (suc n) there =
    let f = material_sector key image offset in
    let before = length-sectors key image offset n (omega (arith, there)) in
    let stored : length (take 512 (drop (offset + 512 * n) image)) ≡ 512 =
    length-take-le 512 (drop (offset + 512 * n) image) (omega (arith, there, length-drop (offset + 512 * n) image)) in
    let one : length (f n) ≡ 512 =
    length-sector_decrypted key n (take 512 (drop (offset + 512 * n) image)) (omega (arith, stored)) ∙ stored in
    omega (arith, before, one, length-append (joined f n) (f n))

-- sectors of key material that are decrypted as data units that follow one another
pub sectors_of_material : (key : Cipher) (image stored : List ℕ) (offset number : ℕ)
    → stored ≡ take (length stored) (drop (offset + 512 * number) image) → number + length stored < 2 ^ 64
    → units_decrypted key.0 key.1 number 512 stored
    ≡ joined (λ i. material_sector key image offset (number + i)) (length stored / 512)
unfolding units_decrypted
sectors_of_material key image stored offset number is small =
    let numbered : (i : ℕ) → i < length stored / 512 → (number + i * 1) % 2 ^ 64 ≡ number + i = λ i low. omega arith in
    let unit : (i : ℕ) → i < length stored / 512
    → take 512 (drop (i * 512) stored) ≡ take 512 (drop (offset + 512 * (number + i)) image) = λ i low.
    let there : offset + 512 * number + i * 512 ≡ offset + 512 * (number + i) = omega arith in
    ap (λ s. take 512 (drop (i * 512) s)) is
    ∙ (at_prefix (i * 512) 512 (length stored) (drop (offset + 512 * number) image) (omega arith)
    ∙ ap (take 512) (drop-drop (i * 512) (offset + 512 * number) image ∙ ap (λ n. drop n image) there)) in
    joined_same _ (λ i. material_sector key image offset (number + i)) (length stored / 512)
    (λ i low. λ j. sector_decrypted key.0 key.1 (numbered i low j) (unit i low j))

-- the key that key material holds has the length of a stripe
pub length-recovered : (af : Hash) (key : Cipher) (image : List ℕ) (offset len stripes : ℕ)
    → is_key_length len ≡ true → 1 ≤ stripes → offset + key_material_len len stripes ≤ length image
    → length (recovered af key image offset len stripes) ≡ len
unfolding recovered decrypted_material key_material_len
length-recovered af key image offset len stripes is some there =
    let count = key_material_len len stripes / 512 in
    let material = joined (material_sector key image offset) count in
    let all : length material ≡ count * 512 =
    length-sectors key image offset count (omega (arith, there)) in
    let whole : length (take (len * stripes) material) ≡ len * stripes =
    length-take-le (len * stripes) material (omega (arith, all)) in
    let number : stripes ≡ suc (stripes - 1) = omega (arith, some) in
    length-merged af len (take (len * stripes) material) (stripes - 1) (omega (arith, some_bytes len is))
    (whole ∙ (mul_comm len stripes ∙ ap (λ n. n * len) number))

-- whole pairs of sectors consist of whole stripes
pub whole_pairs : (number in_pair len : ℕ) → in_pair * len ≡ 1024 → number * 1024 ≡ number * in_pair * len
whole_pairs number in_pair len fits = ap (λ n. number * n) (sym fits) ∙ sym (mul_assoc number in_pair len)

-- the splitter before any sector
pub sectors_none : (h : Hash) (len in_pair : ℕ) (f : ℕ → List ℕ) (new : AfSplitterModel)
    → new ≡ record { hash = h; block = replicate len 0 } → new ≡ splitter_after h len (joined f 0) (0 * in_pair)
sectors_none h len in_pair f new start =
    let nothing : 0 * in_pair ≡ 0 = omega arith in
    rw nothing (splitter_start h len (joined f 0) new start)

-- the splitter after one more pair of sectors
pub pair_more : (h : Hash) (len in_pair : ℕ) (f : ℕ → List ℕ) (i : ℕ) (pair : List ℕ) (splitter : AfSplitterModel)
    → in_pair * len ≡ 1024 → pair ≡ joined (λ m. f (2 * i + m)) 2 → length pair ≡ 1024
    → splitter ≡ splitter_after h len (joined f (2 * i) ++ take (in_pair * len) pair) (i * in_pair + in_pair)
    → splitter ≡ splitter_after h len (joined f (2 * (i + 1))) ((i + 1) * in_pair)
pair_more h len in_pair f i pair splitter fits is whole h_is =
    let more = joined (λ m. f (2 * i + m)) 2 in
    let all : take (in_pair * len) pair ≡ more = ap (λ n. take n pair) fits
    ∙ (take_all 1024 pair (omega arith) ∙ is) in
    let count : i * in_pair + in_pair ≡ (i + 1) * in_pair = omega arith in
    let next : 2 * i + 2 ≡ 2 * (i + 1) = omega arith in
    h_is ∙ (λ k. splitter_after h len (joined f (2 * i) ++ all k) (count k))
    ∙ ap (λ s. splitter_after h len s ((i + 1) * in_pair)) (sym (joined_more f (2 * i) 2) ∙ ap (joined f) next)

-- the key that key material holds, computed from the splitter before the last stripe
pub recovered_by_last : (h : Hash) (key : Cipher) (image : List ℕ) (offset len stripes pairs rest left : ℕ)
    (sectors last : List ℕ) (splitter : AfSplitterModel) → AreInPairs len stripes pairs rest left → 1 ≤ len
    → length (joined (material_sector key image offset) (2 * pairs)) ≡ pairs * 1024
    → sectors ≡ joined (λ i. material_sector key image offset (2 * pairs + i)) (left / 512) → length sectors ≡ left
    → last ≡ take len (drop (rest * len) sectors)
    → splitter ≡ splitter_after h len
    (joined (material_sector key image offset) (2 * pairs) ++ take (rest * len) sectors)
    (pairs * (1024 / len) + rest) → xor splitter.block last ≡ recovered h key image offset len stripes
unfolding recovered decrypted_material
recovered_by_last h key image offset len stripes pairs rest left sectors last splitter layout some before is_sectors
    full is_last is_splitter =
    let f = material_sector key image offset in
    let q = 2 * pairs in
    let next = joined (λ i. f (q + i)) (left / 512) in
    let prefix = joined f q ++ take (rest * len) sectors in
    let count = key_material_len len stripes / 512 in
    let long : rest * len + len ≤ length next = omega (arith, ap length is_sectors, layout.within) in
    let below : q + left / 512 ≤ count = omega (arith, layout.there, layout.whole) in
    let start : length (joined f q) ≡ q * 512 = omega arith in
    let bytes : len * stripes ≡ q * 512 + (rest * len + len) = omega (arith, layout.all) in
    let stripes_are : take (len * stripes) (joined f count) ≡ prefix ++ last =
    ap (λ n. take n (joined f count)) bytes
    ∙ (prefix_of_joined f q (left / 512) count (rest * len + len) below start long
    ∙ (ap (λ s. joined f q ++ take (rest * len + len) s) (sym is_sectors) ∙ (ap (λ s. joined f q ++ s)
    (take-add (rest * len) len sectors ∙ ap (λ s. take (rest * len) sectors ++ s) (sym is_last))
    ∙ sym (append_assoc (joined f q) (take (rest * len) sectors) last)))) in
    let one : length last ≡ len =
    ap length is_last ∙ length-take-le len (drop (rest * len) sectors)
    (omega (arith, length-drop (rest * len) sectors, layout.within)) in
    let number : length prefix ≡ (pairs * (1024 / len) + rest) * len =
    omega (
      arith,
      length-append (joined f q) (take (rest * len) sectors),
      length-take-le (rest * len) sectors (omega (arith, layout.within)),
      layout.before,
    ) in
    ap (λ (c : AfSplitterModel). xor c.block last) is_splitter
    ∙ (sym (merged_push h len prefix last (pairs * (1024 / len) + rest) some number one)
    ∙ ap (merged h len) (sym stripes_are))
