-- What it means for an image to be an honestly sealed volume of the keys, the passphrases and the plaintext that went
-- into it, in the terms of both formats (LUKS1 On-Disk Format Specification 1.2.3, sections 2 to 4; LUKS2 On-Disk
-- Format Specification 1.1, sections 2 to 4). These definitions do not state how an image is made or how it is opened.
use Rattle.std.specs.Prelude.{◌≡◌, ℕ, ◌+◌, ◌*◌, ◌/◌, ◌%◌, ◌<◌, ◌≤◌, All, List, length, take, Option, None, Some}
use Rattle.std.specs.Prelude.{Ok}
use Rattle.luks_aes.specs.Bytes.{IsBytes}
use Rattle.luks_cipher.specs.Sector.{Cipher, sector_encrypted}
use Rattle.luks_cipher.specs.declared.mode.Mode.{Mode}
use Rattle.luks_kdf.specs.Pbkdf2.{derived_key}
use Rattle.luks_kdf.specs.Stripes.{IsSplit}
use Rattle.luks_kdf.specs.declared.hash.Hash.{Hash}
use Rattle.luks_format.specs.Fields.{at}
use Rattle.luks_format.specs.Rule.{key_material_len}
use Rattle.luks_format.specs.SectorSize.{bytes_of}
use Rattle.luks_format.specs.Segment.{unit_number}
use Rattle.luks_format.specs.declared.derivation.Derivation.TheVariants.{Pbkdf2}
use Rattle.luks_format.specs.declared.digest.KeyDigest.{KeyDigest}
use Rattle.luks_format.specs.declared.segment.Segment.{Segment}
use Rattle.luks_format.specs.declared.slot.Slot.{Slot}
use Rattle.luks_format.specs.declared.slot.SlotParts.{SlotParts}
use Rattle.luks_format.specs.declared.slot.Verdict.TheVariants.{Usable}
use Rattle.luks_header.specs.Header.{header_of}
use Rattle.luks_header.specs.HeaderSegment.{segment_of}
use Rattle.luks_header.specs.SlotVerdicts.{verdict_at}
use Rattle.luks_header.specs.declared.header.Header.{Header}

-- this plaintext, whole data units of `size` bytes, is stored in the image from `offset` on: unit i as its encryption
-- under the number `number i`
pub record IsStoredEncrypted (cipher : Cipher) (number : ℕ → ℕ) (size offset : ℕ) (plain image : List ℕ) : Type 0 where
  pub bytes : IsBytes plain
  pub whole : length plain % size ≡ 0
  pub there : offset + length plain ≤ length image
  pub units : (i : ℕ) → i < length plain / size
      → at (offset + i * size) size image
      ≡ sector_encrypted cipher.0 cipher.1 (number i) (at (i * size) size plain)

-- these bytes are the key material of a key slot that has these parts: the stripes of the key, which are made with some
-- random bytes, and further bytes up to whole sectors of 512
pub record IsMaterial (af : Hash) (parts : SlotParts) (key material : List ℕ) : Type 0 where
  pub random : List ℕ
  pub split : IsSplit af random key (take (length key * parts.stripes) material)
  pub len : length material ≡ key_material_len (length key) parts.stripes

-- the key slot with these parts gives the key under this passphrase: its area has key material of the key, encrypted
-- under the key that PBKDF2 derives from the passphrase, with sectors numbered from 0
pub record GivesKey (parts : SlotParts) (passphrase key image : List ℕ) : Type 0 where
  pub kdf : Hash
  pub iterations : ℕ
  pub af : Hash
  pub mode : Mode
  pub is_kdf : parts.derivation ≡ Pbkdf2 (Some kdf) iterations
  pub is_af : parts.af_hash ≡ Some af
  pub is_mode : parts.area_mode ≡ Some mode
  pub key_bytes : parts.key_bytes ≡ length key
  pub material : List ℕ
  pub is_material : IsMaterial af parts key material
  pub is_stored : IsStoredEncrypted
      (mode, derived_key kdf passphrase parts.salt iterations parts.area_key_bytes)
      (λ i. i) 512 parts.area_offset material image

-- the digest is that of the key: PBKDF2 of the key
pub record IsDigestOf (digest : KeyDigest) (key : List ℕ) : Type 0 where
  pub hash : Hash
  pub is_hash : digest.parts.hash ≡ Some hash
  pub value : digest.parts.value
      ≡ derived_key hash key digest.parts.salt digest.parts.iterations (length digest.parts.value)

-- the key slot of this number is usable without a limit on iterations, it gives the key under this passphrase, and the
-- digest of the slot is that of the key
pub record SealsKey (header : Header) (image key : List ℕ) (number : ℕ) (passphrase : List ℕ) : Type 0 where
  pub slot : Slot
  pub usable : verdict_at header None number ≡ Some (Usable slot)
  pub gives : GivesKey slot.parts passphrase key image
  pub digest_of_key : IsDigestOf slot.digest key

-- the payload is as long as the plaintext: a fixed size is that length; without one, the image ends at byte `end`
abbrev pub EndsWith : Option ℕ → List ℕ → ℕ → List ℕ → Type 0
EndsWith None plain end image = length image ≡ end
EndsWith (Some size) plain end image = size ≡ length plain

-- the payload is the plaintext, encrypted under the key
pub record SealsPlain (segment : Segment) (image key plain : List ℕ) : Type 0 where
  pub is_stored : IsStoredEncrypted (segment.mode, key) (unit_number segment) (bytes_of segment.sector_size)
      segment.offset
      plain image
  pub ends : EndsWith segment.size plain (segment.offset + length plain) image

-- the image is a volume of this key and plaintext, and each of these key slots gives the key under its passphrase
pub record Sealed (image : List ℕ) (passphrases : List (ℕ × List ℕ)) (key plain : List ℕ) : Type 0 where
  pub header : Header
  pub segment : Segment
  pub is_header : header_of image ≡ Ok header
  pub is_segment : segment_of header ≡ Ok segment
  pub key_bytes : IsBytes key
  pub slots : All (λ slot. SealsKey header image key slot.0 slot.1) passphrases
  pub payload : SealsPlain segment image key plain
