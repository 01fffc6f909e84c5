-- The pieces that volumes of both formats are put together from.
use Rattle.std.specs.Prelude.{ℕ, ◌+◌, ◌-◌, ◌*◌, ◌/◌, ◌%◌, ◌^◌, List, ◌++◌, length, replicate, take, drop}
use Rattle.std.specs.Int.{div_ceil}
use Rattle.luks_cipher.specs.Sector.{Cipher, sector_encrypted}
use Rattle.luks_kdf.specs.Bytes.{joined}
use Rattle.luks_kdf.specs.Stripes.{split_stripes}
use Rattle.luks_kdf.specs.declared.hash.Hash.{Hash}

-- bytes padded with zeros to this length
unfoldable pub padded : ℕ → List ℕ → List ℕ
padded capacity bytes = bytes ++ replicate (capacity - length bytes) 0

-- the unit number of sector i: `first` for the first sector, and `step` more for each further one. The numbers wrap at
-- 2^64
abbrev pub wrapping_number : ℕ → ℕ → ℕ → ℕ
wrapping_number first step i = (first + i * step) % 2 ^ 64

-- sector i of some bytes
abbrev pub sector_at : ℕ → List ℕ → ℕ → List ℕ
sector_at size bytes i = take size (drop (i * size) bytes)

-- sector i of some bytes, encrypted under its unit number
unfoldable pub encrypted_sector : Cipher → ℕ → ℕ → ℕ → List ℕ → ℕ → List ℕ
encrypted_sector cipher first step size bytes i =
    sector_encrypted cipher.0 cipher.1 (wrapping_number first step i) (sector_at size bytes i)

-- whole sectors of this size, each encrypted by itself
unfoldable pub sectors_encrypted : Cipher → ℕ → ℕ → ℕ → List ℕ → List ℕ
sectors_encrypted cipher first step size bytes =
    joined (encrypted_sector cipher first step size bytes) (length bytes / size)

-- the stripes of a key, under a name that stays folded in the proofs about whole images
unfoldable pub stripes_of : Hash → List ℕ → ℕ → List ℕ → List ℕ
stripes_of hash key count random = split_stripes hash count key random

-- bytes padded with zeros to whole sectors of 512 bytes
unfoldable pub sector_padded : List ℕ → List ℕ
sector_padded bytes = padded (div_ceil (length bytes) 512 * 512) bytes

-- key material: stripes padded to whole sectors of 512 bytes, which are encrypted and numbered from 0
unfoldable pub encrypted_material : Cipher → List ℕ → List ℕ
encrypted_material cipher stripes = sectors_encrypted cipher 0 1 512 (sector_padded stripes)
