-- Encryption of sectors under AES, in the modes that dm-crypt's documentation calls by these names. A sector is a data
-- unit of whole blocks with a unit number.
use Rattle.std.specs.Prelude.{ℕ, ◌+◌, ◌*◌, ◌/◌, ◌%◌, ◌^◌, Bool, ◌||◌, ◌==◌, if◌then◌else◌, bytes_eq, codes, List}
use Rattle.std.specs.Prelude.{length, take, drop, Option, Some, None}
use Rattle.std.specs.Int.{w128, to_le_bytes}
use Rattle.sha2.specs.Sha256.{sha256}
use Rattle.luks_aes.specs.Aes.{encrypted}
use Rattle.luks_cipher.specs.Xts.{is_xts_key_length, xts_encrypted, xts_decrypted}
use Rattle.luks_kdf.specs.Bytes.{joined}
use Rattle.luks_cipher.specs.Cbc.{cbc_encrypted, cbc_decrypted}
use Rattle.luks_cipher.specs.declared.mode.Mode.{Mode}
use Rattle.luks_cipher.specs.declared.mode.Mode.TheVariants.{XtsPlain64, XtsPlain, CbcEssivSha256, CbcPlain64}

-- the name of the mode
abbrev pub mode_name : Mode → List ℕ
mode_name XtsPlain64 = codes "xts-plain64"
mode_name XtsPlain = codes "xts-plain"
mode_name CbcEssivSha256 = codes "cbc-essiv:sha256"
mode_name CbcPlain64 = codes "cbc-plain64"

-- the mode of this name, if there is one
abbrev pub mode_named : List ℕ → Option Mode
mode_named name =
    if bytes_eq name (codes "xts-plain64") then Some XtsPlain64
    else if bytes_eq name (codes "xts-plain") then Some XtsPlain
    else if bytes_eq name (codes "cbc-essiv:sha256") then Some CbcEssivSha256
    else if bytes_eq name (codes "cbc-plain64") then Some CbcPlain64
    else None

-- the lengths that a key of the mode can have: two keys of AES for XTS, one for CBC
abbrev pub is_mode_key_length : Mode → ℕ → Bool
is_mode_key_length XtsPlain64 n = is_xts_key_length n
is_mode_key_length XtsPlain n = is_xts_key_length n
is_mode_key_length CbcEssivSha256 n = (n == 16) || (n == 32)
is_mode_key_length CbcPlain64 n = (n == 16) || (n == 32)

-- the lengths that a key of any of the modes can have
abbrev pub is_key_length : ℕ → Bool
is_key_length n = n == 16 || n == 32 || n == 64

-- the IV of plain64: the sector's unit number, little-endian, and zeros
abbrev pub plain64_iv : ℕ → List ℕ
plain64_iv number = to_le_bytes w128 number

-- the IV of essiv:sha256: the IV of plain64 encrypted under the SHA-256 digest of the key
abbrev pub essiv_iv : List ℕ → ℕ → List ℕ
essiv_iv key number = encrypted (sha256 key) (to_le_bytes w128 number)

-- a mode, and a key of that mode
abbrev pub Cipher : Type 0
Cipher = Mode × List ℕ

-- the sector with this unit number, encrypted; xts-plain cuts the number to its 32 low bits
abbrev pub sector_encrypted : Mode → List ℕ → ℕ → List ℕ → List ℕ
sector_encrypted XtsPlain64 key number sector = xts_encrypted key number sector
sector_encrypted XtsPlain key number sector = xts_encrypted key (number % 2 ^ 32) sector
sector_encrypted CbcEssivSha256 key number sector = cbc_encrypted key (essiv_iv key number) sector
sector_encrypted CbcPlain64 key number sector = cbc_encrypted key (plain64_iv number) sector

-- the sector with this unit number, decrypted
abbrev pub sector_decrypted : Mode → List ℕ → ℕ → List ℕ → List ℕ
sector_decrypted XtsPlain64 key number sector = xts_decrypted key number sector
sector_decrypted XtsPlain key number sector = xts_decrypted key (number % 2 ^ 32) sector
sector_decrypted CbcEssivSha256 key number sector = cbc_decrypted key (essiv_iv key number) sector
sector_decrypted CbcPlain64 key number sector = cbc_decrypted key (plain64_iv number) sector

-- sectors of `size` bytes that follow one another, each decrypted by itself. Unit numbers count units of 512 bytes, and
-- wrap at 2^64
unfoldable pub units_decrypted : Mode → List ℕ → ℕ → ℕ → List ℕ → List ℕ
units_decrypted mode key first size units =
    joined (λ i. sector_decrypted mode key ((first + i * (size / 512)) % 2 ^ 64) (take size (drop (i * size) units)))
    (length units / size)
