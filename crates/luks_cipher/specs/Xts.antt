-- XTS-AES (IEEE 1619) on data units whose length is a multiple of 16 bytes. Section numbers are the standard's.
use Rattle.std.specs.Prelude.{◌≡◌, ℕ, zero, suc, ◌+◌, ◌-◌, ◌*◌, ◌/◌, ◌^◌, Bool, ◌||◌, nat_lt, ◌==◌, if◌then◌else◌, List}
use Rattle.std.specs.Prelude.{length, take, drop, IsTrue}
use Rattle.std.specs.Int.{w128, to_le_bytes, from_le_bytes}
use Rattle.luks_aes.specs.Field.{◌⊕◌}
use Rattle.luks_aes.specs.Aes.{cell, state_of, encrypted, decrypted}
use Rattle.luks_aes.specs.Bytes.{IsBytes}
use Rattle.luks_kdf.specs.Bytes.{joined}

-- Key1, for the data, and Key2, for the tweaks: the two halves of the key (5.3.1)
abbrev pub data_key : List ℕ → List ℕ
data_key key = take (length key / 2) key

abbrev pub tweak_key : List ℕ → List ℕ
tweak_key key = drop (length key / 2) key

-- the lengths that a key can have
abbrev pub is_xts_key_length : ℕ → Bool
is_xts_key_length n = (n == 32) || (n == 64)

-- these halves are both keys of AES-128, or both keys of AES-256
pub record IsKeyPair (data_half tweak_half : List ℕ) : Type 0 where
  pub same_length : length data_half ≡ length tweak_half
  pub key_length : IsTrue (is_xts_key_length (length data_half + length tweak_half))
  pub data_bytes : IsBytes data_half
  pub tweak_bytes : IsBytes tweak_half

-- a number below 2^128 times the primitive element: doubled modulo 2^128, XOR 0x87 if the doubling passed 2^128 (5.2)
unfoldable pub doubled_number : ℕ → ℕ
doubled_number n = if nat_lt n (2 ^ 127) then 2 * n else (2 * n - 2 ^ 128) ⊕ 0x87

-- a tweak, as a little-endian number, times the primitive element
unfoldable pub doubled : List ℕ → List ℕ
doubled tweak = to_le_bytes w128 (doubled_number (from_le_bytes w128 tweak))

-- the tweak of the block n after the one with this tweak (5.2)
unfoldable pub tweak_after : List ℕ → ℕ → List ℕ
tweak_after tweak zero = tweak
tweak_after tweak (suc n) = doubled (tweak_after tweak n)

-- the tweak of block j of the data unit of this number (5.3.1, steps 1 and 2)
unfoldable pub tweak_of : List ℕ → ℕ → ℕ → List ℕ
tweak_of key number zero = encrypted (tweak_key key) (to_le_bytes w128 number)
tweak_of key number (suc j) = doubled (tweak_of key number j)

-- XOR of two blocks
unfoldable pub block_xor : List ℕ → List ℕ → List ℕ
block_xor a b = state_of (λ r c. cell a r c ⊕ cell b r c)

-- block j of a data unit
abbrev pub block_at : List ℕ → ℕ → List ℕ
block_at unit j = take 16 (drop (16 * j) unit)

-- XTS-AES-blockEnc: a block under its tweak (5.3.1)
unfoldable pub block_encrypted : List ℕ → List ℕ → List ℕ → List ℕ
block_encrypted key tweak block = block_xor (encrypted (data_key key) (block_xor block tweak)) tweak

-- XTS-AES-blockDec (5.4.1)
unfoldable pub block_decrypted : List ℕ → List ℕ → List ℕ → List ℕ
block_decrypted key tweak block = block_xor (decrypted (data_key key) (block_xor block tweak)) tweak

-- XTS-AES-Enc: the data unit of this number under the key (5.3.2)
unfoldable pub xts_encrypted : List ℕ → ℕ → List ℕ → List ℕ
xts_encrypted key number unit =
    joined (λ j. block_encrypted key (tweak_of key number j) (block_at unit j)) (length unit / 16)

-- XTS-AES-Dec (5.4.2)
unfoldable pub xts_decrypted : List ℕ → ℕ → List ℕ → List ℕ
xts_decrypted key number unit =
    joined (λ j. block_decrypted key (tweak_of key number j) (block_at unit j)) (length unit / 16)
