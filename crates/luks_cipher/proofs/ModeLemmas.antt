-- The lengths of keys and of decrypted data units.
use Rattle.std.proofs.Common.{◌≡◌, ◌∙◌, ℕ, ◌/◌, ◌%◌, ◌≤◌, List, length, refl, arith, true}
use Rattle.std.proofs.lemmas.Bool.Decides.{nat_tests}
use Rattle.luks_cipher.specs.Cbc.{cbc_decrypted}
use Rattle.luks_cipher.specs.Sector.{Cipher, is_key_length, is_mode_key_length, sector_decrypted}
use Rattle.luks_cipher.specs.Xts.{block_decrypted, block_xor, xts_decrypted}
use Rattle.luks_kdf.specs.Bytes.{joined}
use Rattle.luks_cipher.specs.declared.mode.Mode.{Mode}
use Rattle.luks_cipher.specs.declared.mode.Mode.TheVariants.{XtsPlain64, XtsPlain, CbcEssivSha256, CbcPlain64}
use Rattle.luks_kdf.proofs.BytesLemmas.{joined_length}

-- if a key of a mode can have a length, it is a key length
pub key_length_of_mode : (mode : Mode) (n : ℕ) → is_mode_key_length mode n ≡ true → is_key_length n ≡ true
key_length_of_mode XtsPlain64 n is = grind (arith, nat_tests)
key_length_of_mode XtsPlain n is = grind (arith, nat_tests)
key_length_of_mode CbcEssivSha256 n is = grind (arith, nat_tests)
key_length_of_mode CbcPlain64 n is = grind (arith, nat_tests)

-- no key of a mode is longer than 64 bytes
pub max_mode_key : (mode : Mode) (n : ℕ) → is_mode_key_length mode n ≡ true → n ≤ 64
max_mode_key mode n is =
    let known = key_length_of_mode mode n is in
    grind (arith, nat_tests)

-- a data unit of whole blocks keeps its length if each of its blocks is replaced by one of 16 bytes
pub blocks_length : (f : ℕ → List ℕ) (unit : List ℕ) → ((j : ℕ) → length (f j) ≡ 16) → length unit % 16 ≡ 0
    → length (joined f (length unit / 16)) ≡ length unit
blocks_length f unit sizes whole = joined_length f 16 (length unit / 16) (λ j low. sizes j) ∙ omega arith

pub length-sector_decrypted : (cipher : Cipher) (number : ℕ) (unit : List ℕ) → length unit % 16 ≡ 0
    → length (sector_decrypted cipher.0 cipher.1 number unit) ≡ length unit
unfolding xts_decrypted cbc_decrypted block_decrypted block_xor
length-sector_decrypted (XtsPlain64, key) number unit whole = blocks_length _ unit (λ j. refl) whole
length-sector_decrypted (XtsPlain, key) number unit whole = blocks_length _ unit (λ j. refl) whole
length-sector_decrypted (CbcEssivSha256, key) number unit whole = blocks_length _ unit (λ j. refl) whole
length-sector_decrypted (CbcPlain64, key) number unit whole = blocks_length _ unit (λ j. refl) whole
