-- The hash functions that derive several blocks of a key at a time.
use Rattle.std.specs.Prelude.{ℕ}
use Rattle.luks_kdf.specs.declared.hash.Hash.{Hash}
use Rattle.luks_kdf.specs.declared.hash.Hash.TheVariants.{Sha1, Sha224, Sha256, Sha384, Sha512}

-- how many blocks of a derived key are computed side by side, each in a lane of its own
abbrev pub lanes_of : Hash → ℕ
lanes_of Sha1 = 4
lanes_of Sha224 = 1
lanes_of Sha256 = 2
lanes_of Sha384 = 1
lanes_of Sha512 = 1
