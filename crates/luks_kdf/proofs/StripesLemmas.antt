-- The lengths and contents of stripes. The stripes of a split key merge to the key.
use Rattle.std.proofs.Common.{◌≡◌, ◌∙◌, ℕ, zero, suc, ◌+◌, ◌-◌, ◌*◌, ◌/◌, ◌<◌, ◌≤◌, List, ◌++◌, length, take, drop}
use Rattle.std.proofs.Common.{min, replicate, refl, sym, ap, ap₂, arith, add-one, length-append, length-drop}
use Rattle.std.proofs.lemmas.List.{drop-append-le, length-replicate, length-take, length-take-le, take-append-le}
use Rattle.std.proofs.lemmas.List.{take_all}
use Rattle.std.proofs.Math.Nat.{mul-div_cancel}
use Rattle.std.specs.Int.{div_ceil, to_be_bytes, w32}
use Rattle.luks_kdf.specs.declared.hash.Hash.{Hash}
use Rattle.luks_kdf.specs.Bytes.{joined, xor}
use Rattle.luks_kdf.specs.Hash.{hash_of, digest_len}
use Rattle.luks_kdf.specs.Stripes.{AfSplitterModel, IsSplit, splitter_after, splitter_block, diffused}
use Rattle.luks_kdf.specs.Stripes.{diffused_piece, splitter_with, merged, piece_of, stripe_at}
use Rattle.luks_kdf.proofs.BytesLemmas.{cut, drop_prefix, joined_same, length-filled, length-xor, take-joined}
use Rattle.luks_kdf.proofs.BytesLemmas.{xor-undone}
use Rattle.luks_kdf.proofs.Pbkdf2Lemmas.{length-hash_of, digest_sizes}

-- the digest of the number of a piece and the piece
unfoldable pub hashed_piece : Hash → List ℕ → ℕ → List ℕ
hashed_piece h block j = hash_of h (to_be_bytes w32 j ++ piece_of h block j)

pub length-hashed_piece : (h : Hash) (block : List ℕ) (size : ℕ) → size ≡ digest_len h → (j : ℕ)
    → length (hashed_piece h block j) ≡ size
unfolding hashed_piece
length-hashed_piece h block size is_size j = length-hash_of h (to_be_bytes w32 j ++ piece_of h block j) ∙ sym is_size

-- a diffused block is the first bytes of those digests
pub diffused_is : (h : Hash) (block : List ℕ)
    → diffused h block ≡ take (length block) (joined (hashed_piece h block) (div_ceil (length block) (digest_len h)))
unfolding diffused diffused_piece piece_of hashed_piece cut
diffused_is h block =
    let size = digest_len h in
    let n = length block in
    let pieces = hashed_piece h block in
    let same : (j : ℕ) → diffused_piece h block j ≡ cut pieces size n j =
    λ j. ap (λ (m : ℕ). take m (pieces j))
    (length-take size (drop (j * size) block) ∙ ap (λ (m : ℕ). min size m) (length-drop (j * size) block)) in
    joined_same (diffused_piece h block) (cut pieces size n) (div_ceil n size) (λ j low. same j)
    ∙ take-joined pieces size (length-hashed_piece h block size refl) n (div_ceil n size)

-- the length of a diffused block is that of the block
pub length-diffused : (h : Hash) (block : List ℕ) → length (diffused h block) ≡ length block
length-diffused h block =
    let size = digest_len h in
    ap length (diffused_is h block) ∙ length-filled (hashed_piece h block) size (length-hashed_piece h block size refl)
    (length block) (omega (arith, (digest_sizes h).min_len))

-- what a piece of the block is diffused to
pub diffused_part : (h : Hash) (block part new : List ℕ) (size j : ℕ) → size ≡ digest_len h
    → part ≡ take size (drop (j * size) block) → new ≡ take (length part) (hash_of h (to_be_bytes w32 j ++ part))
    → new ≡ take (length part) (hashed_piece h block j)
unfolding hashed_piece piece_of
diffused_part h block part new size j is_size is_part is_new =
    let piece : ℕ → List ℕ = λ n. take n (drop (j * n) block) in
    is_new ∙ ap (λ (p : List ℕ). take (length part) (hash_of h (to_be_bytes w32 j ++ p))) (is_part ∙ ap piece is_size)

-- a stripe has `len` bytes if the list has them all
pub length-stripe_at : (len : ℕ) (stripes : List ℕ) (i : ℕ) → suc i * len ≤ length stripes
    → length (stripe_at len stripes i) ≡ len
unfolding stripe_at
length-stripe_at len stripes i there =
    length-take-le len (drop (i * len) stripes) (omega (arith, length-drop (i * len) stripes))

-- the block d keeps the length of the key
pub length-splitter_block : (h : Hash) (len : ℕ) (stripes : List ℕ) (i : ℕ) → i * len ≤ length stripes
    → length (splitter_block h len stripes i) ≡ len
unfolding splitter_block
length-splitter_block h len stripes zero there = length-replicate len 0
length-splitter_block h len stripes (suc i) there =
    let before = length-splitter_block h len stripes i (omega arith) in
    let next = length-stripe_at len stripes i there in
    length-diffused h (xor (splitter_block h len stripes i) (stripe_at len stripes i))
    ∙ (length-xor (splitter_block h len stripes i) (stripe_at len stripes i) (before ∙ sym next) ∙ before)

-- a stripe, and the block d, depend on no byte that comes later
pub stripe_at-append : (len : ℕ) (xs ys : List ℕ) (i : ℕ) → suc i * len ≤ length xs
    → stripe_at len (xs ++ ys) i ≡ stripe_at len xs i
unfolding stripe_at
stripe_at-append len xs ys i there =
    let start : i * len ≤ length xs = omega arith in
    ap (take len) (drop-append-le (i * len) xs ys start)
    ∙ take-append-le len (drop (i * len) xs) ys (omega (arith, length-drop (i * len) xs))

pub splitter_block-append : (h : Hash) (len : ℕ) (xs ys : List ℕ) (i : ℕ) → i * len ≤ length xs
    → splitter_block h len (xs ++ ys) i ≡ splitter_block h len xs i
unfolding splitter_block
splitter_block-append h len xs ys zero there = refl
splitter_block-append h len xs ys (suc i) there =
    let before = splitter_block-append h len xs ys i (omega arith) in
    let next = stripe_at-append len xs ys i there in
    ap₂ (λ (d s : List ℕ). diffused h (xor d s)) before next

-- the stripe after i stripes is the last one
pub stripe_at-last : (len : ℕ) (xs last : List ℕ) (i : ℕ) → length xs ≡ i * len → length last ≡ len
    → stripe_at len (xs ++ last) i ≡ last
unfolding stripe_at
stripe_at-last len xs last i before whole =
    ap (take len) (drop_prefix (i * len) xs last before) ∙ take_all len last (omega arith)

-- the key that n stripes merge to, from their number n
pub merged_by_number : (h : Hash) (len : ℕ) (stripes : List ℕ) (n : ℕ) → 0 < len → length stripes ≡ n * len
    → merged h len stripes ≡ xor (splitter_block h len stripes (n - 1)) (stripe_at len stripes (n - 1))
unfolding merged
merged_by_number h len stripes n some whole =
    let number : length stripes / len ≡ n = ap (λ m. m / len) whole ∙ mul-div_cancel n some in
    ap (λ m. xor (splitter_block h len stripes (m - 1)) (stripe_at len stripes (m - 1))) number

-- the key has the length of a stripe
pub length-merged : (h : Hash) (len : ℕ) (stripes : List ℕ) (n : ℕ) → 0 < len → length stripes ≡ suc n * len
    → length (merged h len stripes) ≡ len
length-merged h len stripes n some whole =
    let block = length-splitter_block h len stripes n (omega (arith, whole)) in
    let last = length-stripe_at len stripes n (omega (arith, whole)) in
    let one_less : suc n - 1 ≡ n = omega arith in
    ap length (merged_by_number h len stripes (suc n) some whole)
    ∙ (ap (λ m. length (xor (splitter_block h len stripes m) (stripe_at len stripes m))) one_less
    ∙ (length-xor (splitter_block h len stripes n) (stripe_at len stripes n) (block ∙ sym last) ∙ block))

-- the key that stripes merge to, from the last stripe and those before it
pub merged_push : (h : Hash) (len : ℕ) (before last : List ℕ) (i : ℕ) → 0 < len
    → length before ≡ i * len → length last ≡ len
    → merged h len (before ++ last) ≡ xor (splitter_block h len before i) last
merged_push h len before last i some whole one =
    let all : length (before ++ last) ≡ (i + 1) * len = omega (arith, length-append before last) in
    let one_less : i + 1 - 1 ≡ i = omega arith in
    merged_by_number h len (before ++ last) (i + 1) some all
    ∙ (ap (λ m. xor (splitter_block h len (before ++ last) m) (stripe_at len (before ++ last) m)) one_less
    ∙ ap₂ xor (splitter_block-append h len before last i (omega arith)) (stripe_at-last len before last i whole one))

-- the stripes of a split key merge to the key
pub merged_split : (h : Hash) (random key stripes : List ℕ) → 0 < length key
    → IsSplit h random key stripes → merged h (length key) stripes ≡ key
merged_split h random key stripes some split =
    let len = length key in
    let d = splitter_block h len random split.0 in
    let length_d : length d ≡ len = length-splitter_block h len random split.0 (omega (arith, split.1)) in
    let length_last : length (xor d key) ≡ len = length-xor d key length_d ∙ length_d in
    ap (merged h len) split.2
    ∙ (merged_push h len random (xor d key) split.0 some split.1 length_last ∙ xor-undone d key length_d)

-- the value of a splitter after one more stripe
pub splitter_more : (h : Hash) (len : ℕ) (stripes : List ℕ) (i : ℕ) (splitter : AfSplitterModel) (stripe : List ℕ)
    → splitter ≡ splitter_after h len stripes i → stripe ≡ stripe_at len stripes i
    → splitter_with splitter stripe ≡ splitter_after h len stripes (i + 1)
unfolding splitter_block
splitter_more h len stripes i splitter stripe is_splitter is_stripe =
    rw add-one (ap₂ (λ (c : AfSplitterModel) (s : List ℕ). splitter_with c s) is_splitter is_stripe)

-- the value of a splitter before any stripe
pub splitter_start : (h : Hash) (len : ℕ) (stripes : List ℕ) (splitter : AfSplitterModel)
    → splitter ≡ record { hash = h; block = replicate len 0 } → splitter ≡ splitter_after h len stripes 0
unfolding splitter_block
splitter_start h len stripes splitter start = start

-- the value of a splitter after a stripe that is appended to those before it
pub splitter_push : (h : Hash) (len : ℕ) (before stripe : List ℕ) (i : ℕ) (splitter : AfSplitterModel)
    → length before ≡ i * len → length stripe ≡ len → splitter ≡ splitter_after h len before i
    → splitter_with splitter stripe ≡ splitter_after h len (before ++ stripe) (i + 1)
splitter_push h len before stripe i splitter whole one is_splitter =
    let with_block : List ℕ → AfSplitterModel = λ block. record { hash = h; block = block } in
    let longer = ap with_block (sym (splitter_block-append h len before stripe i (omega arith))) in
    splitter_more h len (before ++ stripe) i splitter stripe (is_splitter ∙ longer)
    (sym (stripe_at-last len before stripe i whole one))

-- if some bytes and one more stripe are n stripes, those bytes are a whole number of stripes
pub whole_stripes : (len bytes n : ℕ) → 0 < len → 1 ≤ n → bytes + len ≡ n * len → bytes ≡ bytes / len * len
whole_stripes len bytes zero some one all = absurd (omega arith)
whole_stripes len bytes (suc m) some one all =
    let before : bytes ≡ m * len = omega arith in
    before ∙ sym (ap (λ k. k * len) (ap (λ b. b / len) before ∙ mul-div_cancel m some))

-- one stripe remains after all but one of n stripes
pub one_left : (len bytes n : ℕ) → 0 < len → 1 ≤ n → bytes ≡ n * len → bytes - (bytes / len - 1) * len ≡ len
one_left len bytes zero some one all = absurd (omega arith)
one_left len bytes (suc m) some one all =
    let number : bytes / len ≡ suc m = ap (λ b. b / len) all ∙ mul-div_cancel (suc m) some in
    let before : (bytes / len - 1) * len ≡ m * len = ap (λ k. k * len) (ap (λ k. k - 1) number ∙ one_less m) in
    omega (arith, before)
  where
    one_less : (m : ℕ) → suc m - 1 ≡ m
    one_less m = omega arith

-- a key and its random stripes have only one split
pub IsSplit-unique : (h : Hash) (random key stripes other : List ℕ) → 0 < length key
    → IsSplit h random key stripes → IsSplit h random key other → stripes ≡ other
IsSplit-unique h random key stripes other some one two =
    let number : one.0 ≡ two.0 =
    sym (mul-div_cancel one.0 some) ∙ (ap (λ b. b / length key) (sym one.1 ∙ two.1) ∙ mul-div_cancel two.0 some) in
    one.2 ∙ (ap (λ n. random ++ xor (splitter_block h (length key) random n) key) number ∙ sym two.2)
