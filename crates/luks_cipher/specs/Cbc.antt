-- CBC over AES (NIST SP 800-38A, 6.2) on data units of whole blocks. The IV is used as the cipher block before the
-- first.
use Rattle.std.specs.Prelude.{ℕ, zero, suc, ◌/◌, List, length}
use Rattle.luks_aes.specs.Aes.{encrypted, decrypted}
use Rattle.luks_cipher.specs.Xts.{block_at, block_xor}
use Rattle.luks_kdf.specs.Bytes.{joined}

-- the cipher block before block j of a data unit of cipher blocks: the IV if j is 0
unfoldable pub block_before : List ℕ → List ℕ → ℕ → List ℕ
block_before iv unit zero = iv
block_before iv unit (suc j) = block_at unit j

-- the IV if j is 0, and otherwise cipher block j - 1, computed from the plain data unit
unfoldable pub chained : List ℕ → List ℕ → List ℕ → ℕ → List ℕ
chained key iv unit zero = iv
chained key iv unit (suc j) = encrypted key (block_xor (block_at unit j) (chained key iv unit j))

-- CBC encryption
unfoldable pub cbc_encrypted : List ℕ → List ℕ → List ℕ → List ℕ
cbc_encrypted key iv unit = joined (λ j. chained key iv unit (suc j)) (length unit / 16)

-- CBC decryption
unfoldable pub cbc_decrypted : List ℕ → List ℕ → List ℕ → List ℕ
cbc_decrypted key iv unit =
    joined (λ j. block_xor (decrypted key (block_at unit j)) (block_before iv unit j)) (length unit / 16)
