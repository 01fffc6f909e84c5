-- The keys of a sector cipher.
use Rattle.std.specs.Prelude.{◌≡◌, ⊤, ℕ, List}
use Rattle.sha2.specs.Sha256.{sha256}
use Rattle.luks_aes.specs.Bytes.{IsBytes}
use Rattle.luks_cipher.specs.declared.mode.Mode.{Mode}
use Rattle.luks_cipher.specs.declared.mode.Mode.TheVariants as M
use Rattle.luks_cipher.specs.declared.sector.Keys.{Keys}
use Rattle.luks_cipher.specs.declared.sector.Keys.TheVariants.{XtsPlain64, XtsPlain, CbcEssivSha256, CbcPlain64}

-- the mode that the keys are for
abbrev pub keys_mode : Keys → Mode
keys_mode (XtsPlain64 key) = M.XtsPlain64
keys_mode (XtsPlain key) = M.XtsPlain
keys_mode (CbcEssivSha256 key iv_key) = M.CbcEssivSha256
keys_mode (CbcPlain64 key) = M.CbcPlain64

-- the bytes of the key from which they were expanded
abbrev pub key_bytes_of : Keys → List ℕ
key_bytes_of (XtsPlain64 key) = key
key_bytes_of (XtsPlain key) = key
key_bytes_of (CbcEssivSha256 key iv_key) = key
key_bytes_of (CbcPlain64 key) = key

-- the key for the IVs is the digest of the data key
abbrev pub HasDigest : Keys → Type 0
HasDigest (CbcEssivSha256 key iv_key) = iv_key ≡ sha256 key
HasDigest other = ⊤

pub record IsSectorKey (keys : Keys) : Type 0 where
  pub bytes : IsBytes (key_bytes_of keys)
  pub digest : HasDigest keys
