-- Pieces that are joined, sectors that are each encrypted by themselves and stored in an image as `Sealed` states, and
-- the image of a volume of either format: headers, areas, zeros up to the payload, and the payload.
use Rattle.std.proofs.Common.{◌≡◌, ◌∙◌, ℕ, ◌+◌, ◌-◌, ◌*◌, ◌/◌, ◌<◌, List, ◌++◌, length, take, drop, refl, ap, suc, sym}
use Rattle.std.proofs.Common.{add-one, append_assoc, zero, arith, ◌%◌, ◌≤◌, inl, inr, length-append, mul-le-mul_right}
use Rattle.std.proofs.lemmas.Grind.{common_steps}
use Rattle.luks_cipher.specs.Sector.{Cipher, sector_encrypted}
use Rattle.luks_kdf.specs.Bytes.{joined}
use Rattle.luks_volume.specs.Pieces.{encrypted_sector, wrapping_number, sector_at, sectors_encrypted, padded}
use Rattle.std.proofs.lemmas.Bool.{cases_lt}
use Rattle.luks_aes.specs.Aes.{add_round_key, cipher, encrypted}
use Rattle.luks_aes.specs.Bytes.{IsBytes}
use Rattle.luks_format.specs.Fields.{at}
use Rattle.luks_cipher.specs.Cbc.{cbc_encrypted, chained}
use Rattle.luks_cipher.specs.Xts.{block_encrypted, block_xor, xts_encrypted}
use Rattle.luks_cipher.specs.declared.mode.Mode.TheVariants.{XtsPlain64, XtsPlain, CbcEssivSha256, CbcPlain64}
use Rattle.luks_cipher.proofs.ModeLemmas.{blocks_length}
use Rattle.luks_volume.specs.Sealed.{IsStoredEncrypted}
use Rattle.luks_volume.proofs.FieldLemmas.{at_at, at_first, at_second, length-at, at_inside, at_padded}
use Rattle.luks_volume.proofs.FieldLemmas.{at_within_second}
use Rattle.luks_volume.proofs.FieldLemmas.{IsThere, length-padded, padded_begins}

-- one more piece is appended to those that follow the first bytes
pub pieces_more : (piece : ℕ → List ℕ) (n : ℕ) (first before after : List ℕ) → before ≡ first ++ joined piece n
    → after ≡ before ++ piece n → after ≡ first ++ joined piece (n + 1)
unfolding joined
pieces_more piece n first before after is next =
    rw (add-one, ← append_assoc) (next ∙ ap (λ bytes. bytes ++ piece n) is)

-- each whole piece has `size` bytes
pub piece_len : (i size : ℕ) (bytes : List ℕ) → i < length bytes / size
    → length (take (i * size + size - i * size) (drop (i * size) bytes)) ≡ size
piece_len i size bytes below = grind (arith, common_steps)

module _ (cipher : Cipher) (first step size : ℕ) (bytes : List ℕ) where
  -- one more sector is encrypted
  pub sectors_more : (i number : ℕ) (before after : List ℕ)
      → before ≡ joined (encrypted_sector cipher first step size bytes) i
      → number ≡ wrapping_number first step i
      → after ≡ before
      ++ sector_encrypted cipher.0 cipher.1 number (take (i * size + size - i * size) (drop (i * size) bytes))
      → after ≡ joined (encrypted_sector cipher first step size bytes) (i + 1)
  unfolding joined encrypted_sector
  sectors_more i number before after is numbered next =
      let len : i * size + size - i * size ≡ size = omega arith in
      rw add-one (next ∙ rw (is, numbered, len) refl)

pub length-sector_encrypted : (cipher : Cipher) (number : ℕ) (unit : List ℕ) → length unit % 16 ≡ 0
    → length (sector_encrypted cipher.0 cipher.1 number unit) ≡ length unit
unfolding xts_encrypted cbc_encrypted chained block_encrypted block_xor encrypted cipher add_round_key
length-sector_encrypted (XtsPlain64, key) number unit whole = blocks_length _ unit (λ j. refl) whole
length-sector_encrypted (XtsPlain, key) number unit whole = blocks_length _ unit (λ j. refl) whole
length-sector_encrypted (CbcEssivSha256, key) number unit whole = blocks_length _ unit (λ j. refl) whole
length-sector_encrypted (CbcPlain64, key) number unit whole = blocks_length _ unit (λ j. refl) whole

-- ---- joined pieces

module _ (f : ℕ → List ℕ) where
  -- a piece ends within the joined pieces
  pub piece_within : (n j : ℕ) → j < n → length (joined f j) + length (f j) ≤ length (joined f n)
  unfolding joined
  piece_within zero j low = absurd (omega arith)
  piece_within (suc n) j low =
      let whole = length-append (joined f n) (f n) in
      elim (cases_lt j n) [
        | inl inside ↦ omega (arith, whole, piece_within n j inside)
        | inr last ↦
            let e : j ≡ n = omega arith in
            omega (arith, whole, ap (λ i. length (joined f i) + length (f i)) e)
      ]

  -- a piece is where those before it end
  pub piece_there : (n j : ℕ) → j < n → at (length (joined f j)) (length (f j)) (joined f n) ≡ f j
  unfolding joined
  piece_there zero j low = absurd (omega arith)
  piece_there (suc n) j low = elim (cases_lt j n) [
    | inl inside ↦
        at_first (length (joined f j)) (length (f j)) (joined f n) (f n) (piece_within n j inside)
        ∙ piece_there n j inside
    | inr last ↦
        let e : j ≡ n = omega arith in
        rw e (at_second (length (joined f n)) (length (f n)) (joined f n) (f n) refl refl)
  ]

-- ---- joined pieces of one length

module _ (f : ℕ → List ℕ) (size : ℕ) where
  pub pieces_length : (n : ℕ) → ((j : ℕ) → j < n → length (f j) ≡ size) → length (joined f n) ≡ n * size
  unfolding joined
  pieces_length zero sizes = omega arith
  pieces_length (suc n) sizes =
      let before = pieces_length n (λ j low. sizes j (omega arith)) in
      omega (arith, length-append (joined f n) (f n), before, sizes n (omega arith))

  pub piece_at : (n j : ℕ) → ((j : ℕ) → j < n → length (f j) ≡ size) → j < n → at (j * size) size (joined f n) ≡ f j
  piece_at n j sizes low =
      let starts = pieces_length j (λ i below. sizes i (omega arith)) in
      ap (λ k. at k size (joined f n)) (sym starts)
      ∙ ap (λ len. at (length (joined f j)) len (joined f n)) (sym (sizes j low))
      ∙ piece_there f n j low

-- ---- encrypted sectors

-- each whole sector ends within the bytes
sector_within : (len size i : ℕ) → len % size ≡ 0 → i < len / size → i * size + size ≤ len
sector_within len size i whole low =
    omega (arith, mul-le-mul_right {m = i + 1} {n = len / size} size (omega arith))

module _ (cipher : Cipher) (first step size : ℕ) (plain : List ℕ) (blocks : size % 16 ≡ 0)
    (whole : length plain % size ≡ 0) where
  sector_length : (i : ℕ) → i < length plain / size → length (encrypted_sector cipher first step size plain i) ≡ size
  unfolding encrypted_sector
  sector_length i low =
      let is = length-at (i * size) size plain (sector_within (length plain) size i whole low) in
      length-sector_encrypted cipher (wrapping_number first step i) (sector_at size plain i) (rw is blocks) ∙ is

  -- encryption keeps the length of whole sectors
  pub length-sectors_encrypted : length (sectors_encrypted cipher first step size plain) ≡ length plain
  unfolding sectors_encrypted
  length-sectors_encrypted =
      pieces_length (encrypted_sector cipher first step size plain) size (length plain / size) sector_length
      ∙ omega arith

  -- if an image has the encrypted sectors at this offset, the sectors are stored encrypted there, under their numbers
  pub sectors_are_stored : (number : ℕ → ℕ)
      → ((i : ℕ) → i < length plain / size → wrapping_number first step i ≡ number i) → (offset : ℕ) (image : List ℕ)
      → IsBytes plain → IsThere offset (sectors_encrypted cipher first step size plain) image
      → IsStoredEncrypted cipher number size offset plain image
  unfolding sectors_encrypted encrypted_sector
  sectors_are_stored number same offset image bytes found = record {
    bytes = bytes;
    whole = whole;
    there = omega (arith, found.within, length-sectors_encrypted);
    units = λ i low.
        sym (at_at (i * size) size offset (length plain) image (sector_within (length plain) size i whole low))
        ∙ (ap (λ n. at (i * size) size (at offset n image)) (sym length-sectors_encrypted)
        ∙ (ap (at (i * size) size) found.is
        ∙ (piece_at (encrypted_sector cipher first step size plain) size (length plain / size) i sector_length low
        ∙ ap (λ n. sector_encrypted cipher.0 cipher.1 n (at (i * size) size plain)) (same i low))));
  }

-- ---- an image

-- where an image has its parts: the areas follow the headers, each area begins with its key material, and the plaintext
-- is stored from `start` on
pub record IsImage (image headers : List ℕ) (area : ℕ → List ℕ) (count start : ℕ) (cipher : Cipher) (number : ℕ → ℕ)
    (size : ℕ) (plain : List ℕ) : Type 0 where
  pub len : length image ≡ start + length plain
  pub in_headers : (offset n : ℕ) → offset + n ≤ length headers → at offset n image ≡ at offset n headers
  pub in_area : (k offset capacity : ℕ) (material : List ℕ) → k < count
      → offset ≡ length headers + length (joined area k) → area k ≡ padded capacity material
      → length material ≤ capacity → IsThere offset material image
  pub stored : (offset : ℕ) → offset ≡ start → IsStoredEncrypted cipher number size offset plain image

module _ (headers : List ℕ) (area : ℕ → List ℕ) (count start : ℕ) (payload : List ℕ)
    (fits : length headers + length (joined area count) ≤ start) where
  length-prefix : length (padded start (headers ++ joined area count)) ≡ start
  length-prefix =
      length-padded start (headers ++ joined area count) (omega (arith, length-append headers (joined area count)))

  before_there : (offset n : ℕ) → offset + n ≤ length headers + length (joined area count)
      → at offset n (padded start (headers ++ joined area count) ++ payload)
      ≡ at offset n (headers ++ joined area count)
  before_there offset n inside =
      let before = headers ++ joined area count in
      at_first offset n (padded start before) payload (omega (arith, length-prefix))
      ∙ at_padded offset n start before (omega (arith, length-append headers (joined area count)))

  area_there : (k offset capacity : ℕ) (material : List ℕ) → k < count
      → offset ≡ length headers + length (joined area k) → area k ≡ padded capacity material
      → length material ≤ capacity
      → IsThere offset material (padded start (headers ++ joined area count) ++ payload)
  area_there k offset capacity material low starts is enough =
      let prefix = padded start (headers ++ joined area count) in
      let before = length (joined area k) in
      let within = piece_within area count k low in
      let long : length (area k) ≡ capacity = ap length is ∙ length-padded capacity material enough in
      record {
        within = omega (arith, starts, within, long, fits, length-prefix, length-append prefix payload);
        is = before_there offset (length material) (omega (arith, starts, within, long))
            ∙ at_within_second offset before (length material) headers (joined area count) starts
            ∙ at_inside before 0 (length material) before (length (area k)) (joined area count) (area k) (omega arith)
            (omega (arith, long)) (piece_there area count k low)
            ∙ ap (at 0 (length material)) is
            ∙ padded_begins (length material) capacity material refl;
      }

-- the image that is put together from these parts, with a plaintext of whole sectors
pub image_made : (headers : List ℕ) (area : ℕ → List ℕ) (count start : ℕ) (cipher : Cipher) (first step size : ℕ)
    (plain : List ℕ) → length headers + length (joined area count) ≤ start → size % 16 ≡ 0 → length plain % size ≡ 0
    → IsBytes plain
    → IsImage (padded start (headers ++ joined area count) ++ sectors_encrypted cipher first step size plain)
    headers area count start cipher (wrapping_number first step) size plain
image_made headers area count start cipher first step size plain fits blocks whole bytes =
    let prefix = padded start (headers ++ joined area count) in
    let payload = sectors_encrypted cipher first step size plain in
    let begins = length-prefix headers area count start payload fits in
    let long = length-sectors_encrypted cipher first step size plain blocks whole in
    record {
      len = omega (arith, length-append prefix payload, begins, long);
      in_headers = λ offset n inside.
          before_there headers area count start payload fits offset n (omega (arith, inside))
          ∙ at_first offset n headers (joined area count) inside;
      in_area = area_there headers area count start payload fits;
      stored = λ offset is.
          sectors_are_stored cipher first step size plain blocks whole (wrapping_number first step) (λ i low. refl)
          offset (prefix ++ payload) bytes (record {
            within = omega (arith, is, begins, length-append prefix payload);
            is = at_second offset (length payload) prefix payload (is ∙ sym begins) refl;
          });
    }
