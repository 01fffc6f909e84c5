-- Values that consist of bytes: digests, derived keys, stripes and padded fields. Key material: the stripes of a key in
-- whole sectors, encrypted. And the parameters of volumes.
use Rattle.std.proofs.Common.{ℕ, zero, suc, ◌-◌, List, [], ◌∷◌, ◌++◌, length, replicate, slice_index, arith, ◌≡◌, ◌∙◌}
use Rattle.std.proofs.Common.{◌+◌, ◌*◌, ◌/◌, ◌<◌, ◌≤◌, refl, sym, ap, length-append, mul-le-mul_right, ◌≢◌, ◌^◌, true}
use Rattle.std.proofs.Common.{false, Some, None, le-ltb, ne_eqb, codes, Option}
use Rattle.std.specs.Int.{div_ceil, to_be_bytes, w32, w64}
use Rattle.std.specs.Int.Bits.{xor_lt}
use Rattle.sha1.specs.Sha1.{digest_bytes as digest1_bytes, sha1}
use Rattle.sha2.specs.Sha256.{digest_bytes as digest256_bytes, sha224, sha256}
use Rattle.sha2.specs.Sha512.{digest_bytes as digest512_bytes, sha384, sha512}
use Rattle.luks_aes.specs.Bytes.{IsBytes}
use Rattle.luks_aes.proofs.ColumnLemmas.{bytes_append, bytes_cons, bytes_nil, bytes_take, bytes_drop}
use Rattle.luks_kdf.specs.Bytes.{joined, xor}
use Rattle.luks_kdf.specs.Hash.{hash_of, digest_len, hash_named, hash_name}
use Rattle.luks_kdf.specs.Stripes.{splitter_block, diffused, diffused_piece, piece_of, stripe_at}
use Rattle.luks_kdf.specs.declared.hash.Hash.{Hash}
use Rattle.luks_kdf.specs.declared.hash.Hash.TheVariants.{Sha1, Sha224, Sha256, Sha384, Sha512}
use Rattle.luks_volume.specs.Pieces.{padded, stripes_of, encrypted_material, wrapping_number, sector_padded}
use Rattle.luks_kdf.specs.Hmac.{hmac_of}
use Rattle.luks_kdf.specs.Pbkdf2.{derived_key, t_of, u_of}
use Rattle.luks_cipher.specs.Sector.{Cipher, mode_named, mode_name}
use Rattle.luks_kdf.proofs.BytesLemmas.{length-xor}
use Rattle.luks_kdf.proofs.StripesLemmas.{length-splitter_block}
use Rattle.luks_format.specs.Rule.{key_material_len, area_out_of_range, is_digest}
use Rattle.luks_format.specs.Rule.{iterations_out_of_range}
use Rattle.luks_format.specs.Rule.{stripes_out_of_range}
use Rattle.luks_format.specs.declared.slot.SlotParts.{SlotParts}
use Rattle.luks_volume.specs.Sealed.{IsMaterial, IsStoredEncrypted}
use Rattle.luks_volume.proofs.SectorLemmas.{length-sectors_encrypted, sectors_are_stored}
use Rattle.luks_volume.proofs.FieldLemmas.{IsThere, length-padded, padded_begins}
use Rattle.luks_format.specs.Area.{max_loaded_len}
use Rattle.luks_format.specs.Fields.{text_of}
use Rattle.luks_cipher.specs.declared.mode.Mode.{Mode}
use Rattle.luks_cipher.specs.declared.mode.Mode.TheVariants.{XtsPlain64}

pub zeros_bytes : (n : ℕ) → IsBytes (replicate n 0)
zeros_bytes zero = bytes_nil
zeros_bytes (suc n) = bytes_cons (omega arith) (zeros_bytes n)

word_bytes : (n : ℕ) → IsBytes (to_be_bytes w32 n)
word_bytes n =
    bytes_cons (omega arith) (bytes_cons (omega arith) (bytes_cons (omega arith) (bytes_cons (omega arith) bytes_nil)))

long_bytes : (n : ℕ) → IsBytes (to_be_bytes w64 n)
long_bytes n =
    bytes_cons (omega arith) (bytes_cons (omega arith) (bytes_cons (omega arith) (bytes_cons (omega arith)
    (bytes_cons (omega arith) (bytes_cons (omega arith) (bytes_cons (omega arith) (bytes_cons (omega arith)
    bytes_nil)))))))

-- the words of a hash value consist of bytes
words1_bytes : (h : List ℕ) (n : ℕ) → IsBytes (digest1_bytes h n)
unfolding digest1_bytes
words1_bytes h zero = bytes_nil
words1_bytes h (suc n) = bytes_append _ _ (words1_bytes h n) (word_bytes (slice_index h n))

words256_bytes : (h : List ℕ) (n : ℕ) → IsBytes (digest256_bytes h n)
unfolding digest256_bytes
words256_bytes h zero = bytes_nil
words256_bytes h (suc n) = bytes_append _ _ (words256_bytes h n) (word_bytes (slice_index h n))

words512_bytes : (h : List ℕ) (n : ℕ) → IsBytes (digest512_bytes h n)
unfolding digest512_bytes
words512_bytes h zero = bytes_nil
words512_bytes h (suc n) = bytes_append _ _ (words512_bytes h n) (long_bytes (slice_index h n))

-- a digest consists of bytes
pub hash_bytes : (h : Hash) (message : List ℕ) → IsBytes (hash_of h message)
unfolding sha1 sha224 sha256 sha384 sha512
hash_bytes Sha1 message = words1_bytes _ 5
hash_bytes Sha224 message = bytes_take 28 _ (words256_bytes _ 8)
hash_bytes Sha256 message = words256_bytes _ 8
hash_bytes Sha384 message = bytes_take 48 _ (words512_bytes _ 8)
hash_bytes Sha512 message = words512_bytes _ 8

-- joined pieces consist of bytes, if each piece does
pub joined_bytes : (piece : ℕ → List ℕ) (n : ℕ) → ((i : ℕ) → IsBytes (piece i)) → IsBytes (joined piece n)
unfolding joined
joined_bytes piece zero each = bytes_nil
joined_bytes piece (suc n) each = bytes_append _ _ (joined_bytes piece n each) (each n)

-- a diffused block consists of bytes, whatever the block was
chain_bytes : (h : Hash) (len : ℕ) (stripes : List ℕ) (i : ℕ) → IsBytes (splitter_block h len stripes i)
unfolding splitter_block diffused diffused_piece
chain_bytes h len stripes zero = zeros_bytes len
chain_bytes h len stripes (suc i) =
    let block = xor (splitter_block h len stripes i) (stripe_at len stripes i) in
    joined_bytes (diffused_piece h block) (div_ceil (length block) (digest_len h))
    (λ j. bytes_take (length (piece_of h block j)) _ (hash_bytes h (to_be_bytes w32 j ++ piece_of h block j)))

pub xor_bytes : (xs ys : List ℕ) → IsBytes xs → IsBytes ys → IsBytes (xor xs ys)
unfolding xor
xor_bytes [] ys first second = bytes_nil
xor_bytes (x ∷ xs) [] first second = bytes_nil
xor_bytes (x ∷ xs) (y ∷ ys) first second =
    bytes_cons (xor_lt 8 x y (first.each 0) (second.each 0))
    (xor_bytes xs ys (bytes_drop 1 (x ∷ xs) first) (bytes_drop 1 (y ∷ ys) second))

-- the stripes of a key consist of bytes, if the key and the random stripes do
pub stripes_bytes : (hash : Hash) (key : List ℕ) (count : ℕ) (random : List ℕ) → IsBytes key → IsBytes random
    → IsBytes (stripes_of hash key count random)
unfolding stripes_of
stripes_bytes hash key count random keys random_bytes =
    bytes_append random _ random_bytes
    (xor_bytes (splitter_block hash (length key) random (count - 1)) key
    (chain_bytes hash (length key) random (count - 1)) keys)

-- bytes padded with zeros are bytes
pub padded_bytes : (capacity : ℕ) (xs : List ℕ) → IsBytes xs → IsBytes (padded capacity xs)
unfolding padded
padded_bytes capacity xs all = bytes_append xs _ all (zeros_bytes (capacity - length xs))

-- ---- keys that PBKDF2 derives, whatever they are derived from

t_bytes : (h : Hash) (password salt : List ℕ) (i c : ℕ) → IsBytes (t_of h password salt i c)
unfolding t_of u_of hmac_of
t_bytes h password salt i zero = zeros_bytes (digest_len h)
t_bytes h password salt i (suc c) =
    xor_bytes (t_of h password salt i c) (u_of h password salt i (suc c)) (t_bytes h password salt i c)
    (hash_bytes h _)

pub derived_bytes : (h : Hash) (password salt : List ℕ) (c n : ℕ) → IsBytes (derived_key h password salt c n)
unfolding derived_key
derived_bytes h password salt c n =
    bytes_take n _
    (joined_bytes (λ i. t_of h password salt (suc i) c) (div_ceil n (digest_len h))
    (λ i. t_bytes h password salt (suc i) c))

-- ---- whole sectors

-- bytes padded to whole sectors are as many sectors as the bytes need
length-whole_sectors : (bytes : List ℕ) → length (sector_padded bytes) ≡ (length bytes + 511) / 512 * 512
unfolding sector_padded
length-whole_sectors bytes =
    length-padded (div_ceil (length bytes) 512 * 512) bytes (omega arith) ∙ omega arith

whole_sectors_bytes : (bytes : List ℕ) → IsBytes bytes → IsBytes (sector_padded bytes)
unfolding sector_padded
whole_sectors_bytes bytes all = padded_bytes (div_ceil (length bytes) 512 * 512) bytes all

-- ---- stripes

-- a key of at most 64 bytes, 1 to 4000 stripes, and as many random bytes as they need
pub record AreRandomStripes (key : List ℕ) (count : ℕ) (random : List ℕ) : Type 0 where
  pub some : 1 ≤ count
  pub few : count ≤ 4000
  pub max_key : length key ≤ 64
  pub len : length random ≡ (count - 1) * length key

module _ (af : Hash) (key : List ℕ) (count : ℕ) (random : List ℕ) (are_random : AreRandomStripes key count random) where
  -- the stripes of a key have the length of the key times their number
  length-stripes_of : length (stripes_of af key count random) ≡ length key * count
  unfolding stripes_of
  length-stripes_of =
      let chain = splitter_block af (length key) random (count - 1) in
      let last = length-splitter_block af (length key) random (count - 1) (omega (arith, are_random.len)) in
      let one_more : count ≡ count - 1 + 1 = omega (arith, are_random.some) in
      let all : length key * count ≡ (count - 1) * length key + length key =
      ap (λ n. length key * n) one_more ∙ omega arith in
      omega (arith, all, are_random.len, last, length-append random (xor chain key), length-xor chain key last)

  -- encrypted, they are as long as the key material of a slot
  pub length-material : (cipher : Cipher)
      → length (encrypted_material cipher (stripes_of af key count random)) ≡ key_material_len (length key) count
  unfolding key_material_len encrypted_material
  length-material cipher =
      let stripes = stripes_of af key count random in
      let len = length-whole_sectors stripes in
      length-sectors_encrypted cipher 0 1 512 (sector_padded stripes) refl (omega (arith, len))
      ∙ len
      ∙ ap (λ n. (n + 511) / 512 * 512) length-stripes_of

  -- if an image has them encrypted at this offset, they are stored encrypted there, in whole sectors
  pub material_is_stored : (cipher : Cipher) (offset : ℕ) (image : List ℕ) → IsBytes key → IsBytes random
      → IsThere offset (encrypted_material cipher (stripes_of af key count random)) image
      → IsStoredEncrypted cipher (λ i. i) 512 offset (sector_padded (stripes_of af key count random)) image
  unfolding encrypted_material
  material_is_stored cipher offset image bytes random_bytes found =
      let stripes = stripes_of af key count random in
      let len = length-whole_sectors stripes in
      let most = mul-le-mul_right {m = length key} {n = 64} count are_random.max_key in
      let few : length stripes ≤ 256000 = omega (arith, length-stripes_of, most, are_random.few) in
      let same : (i : ℕ) → i < length (sector_padded stripes) / 512 → wrapping_number 0 1 i ≡ i =
      λ i low. omega (arith, len, few) in
      sectors_are_stored cipher 0 1 512 (sector_padded stripes) refl (omega (arith, len)) (λ i. i) same offset image
      (whole_sectors_bytes stripes (stripes_bytes af key count random bytes random_bytes)) found

-- the stripes in whole sectors are key material of the key
pub made_material : (af : Hash) (parts : SlotParts) (key random : List ℕ) → AreRandomStripes key parts.stripes random
    → IsMaterial af parts key (sector_padded (stripes_of af key parts.stripes random))
unfolding stripes_of key_material_len sector_padded
made_material af parts key random are_random =
    let stripes = stripes_of af key parts.stripes random in
    let long = length-stripes_of af key parts.stripes random are_random in
    record {
      random = random;
      split = (
        parts.stripes - 1,
        are_random.len,
        padded_begins (length key * parts.stripes) (div_ceil (length stripes) 512 * 512) stripes (sym long),
      );
      len = length-whole_sectors stripes ∙ ap (λ n. (n + 511) / 512 * 512) long;
    }

-- ---- parameters are in the ranges of the rules for both formats, and names are read back

pub iterations_fit : (iterations : ℕ) → 1 ≤ iterations → iterations < 2 ^ 32
    → iterations_out_of_range None iterations ≡ false
unfolding iterations_out_of_range
iterations_fit iterations some few =
    let not_none : iterations ≢ 0 = λ none. omega (arith, some, none) in
    rw (ne_eqb iterations 0 not_none, le-ltb 4294967295 iterations (omega arith)) refl

pub stripes_fit : (stripes : ℕ) → 1 ≤ stripes → stripes ≤ 4000 → stripes_out_of_range stripes ≡ false
unfolding stripes_out_of_range
stripes_fit stripes some few =
    rw (ne_eqb stripes 0 (λ none. omega (arith, some, none)), le-ltb 4000 stripes few) refl

pub digest_fits : (iterations len : ℕ) → 1 ≤ iterations → iterations < 2 ^ 32 → 20 ≤ len → len ≤ 64
    → is_digest iterations len ≡ true
unfolding is_digest
digest_fits iterations len some few least most =
    rw (iterations_fit iterations some few, le-ltb len 20 least, le-ltb 64 len most) refl

-- an area is in range if it is after the headers, large enough, before the payload and within what is loaded
pub area_fits : (start payload offset size material_len : ℕ) → start ≤ offset → material_len ≤ size
    → offset + material_len ≤ payload
    → payload ≤ max_loaded_len → area_out_of_range start (Some payload) offset size material_len ≡ false
unfolding area_out_of_range
area_fits start payload offset size material_len behind enough before loadable =
    rw (
      le-ltb offset start behind,
      le-ltb size material_len enough,
      le-ltb payload (offset + material_len) before,
      le-ltb max_loaded_len (offset + material_len) (omega arith),
    ) refl

-- the name fits a field of 32 bytes, is read back from it, and names `x`
pub record IsName {X : Type 0} (named : List ℕ → Option X) (x : X) (name : List ℕ) : Type 0 where
  pub len : length (padded 32 name) ≡ 32
  pub read : text_of (padded 32 name) ≡ name
  pub by_name : named name ≡ Some x

pub cipher_is_named : IsName Some (codes "aes") (codes "aes")
unfolding padded
cipher_is_named = record { len = refl; read = refl; by_name = refl }

pub mode_is_named : (mode : Mode) → IsName mode_named mode (mode_name mode)
unfolding padded
mode_is_named XtsPlain64 = record { len = refl; read = refl; by_name = refl }
mode_is_named _ = record { len = refl; read = refl; by_name = refl }

pub hash_is_named : (hash : Hash) → IsName hash_named hash (hash_name hash)
unfolding padded
hash_is_named Sha1 = record { len = refl; read = refl; by_name = refl }
hash_is_named _ = record { len = refl; read = refl; by_name = refl }
