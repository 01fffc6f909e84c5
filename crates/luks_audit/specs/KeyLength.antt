-- The length of the key that is a cipher's own, and when it is short.
use Rattle.std.specs.Prelude.{ℕ, ◌-◌, ◌/◌, ◌==◌, Bool, false, List, Option, Some, None, codes, if◌then◌else◌, nat_lt}
use Rattle.std.specs.Prelude.{option_map}
use Rattle.luks_audit.specs.Cipher.{begins_with}
use Rattle.luks_audit.specs.Text.{text_bytes}
use Rattle.luks_audit.specs.Token.{is_named}
use Rattle.luks_audit.specs.declared.text.Text.{Text}
use Rattle.luks_audit.specs.declared.rows.CipherMode.{CipherMode}
use Rattle.luks_audit.specs.declared.rows.CipherMode.TheVariants.{Null, Xts, Lrw}

-- the least length in bytes of a cipher's key: 256 bits (CNSA 2.0: AES-256)
abbrev pub least_key_len : ℕ
least_key_len = 32

-- ---- volume keys, which end with a key for integrity tags if these are HMACs: it is as long as they are

-- the length in bytes of that key, by the type of integrity tags
abbrev pub integrity_key_len : Option Text → ℕ
integrity_key_len kind =
    if is_named (codes "hmac(sha1)") kind then 20
    else if is_named (codes "hmac(sha256)") kind then 32
    else if is_named (codes "hmac(sha512)") kind then 64
    else 0

-- the same by a cipher that makes the tags itself, as `capi:authenc(hmac(sha256),cbc(aes))-random`
unfoldable pub authenc_key_len : List ℕ → ℕ
authenc_key_len cipher =
    if begins_with (codes "capi:authenc(hmac(sha1),") cipher then 20
    else if begins_with (codes "capi:authenc(hmac(sha256),") cipher then 32
    else if begins_with (codes "capi:authenc(hmac(sha512),") cipher then 64
    else 0

-- the same by both: the volume key has it once, even if the cipher and the type name it
unfoldable pub tag_key_len : List ℕ → Option Text → ℕ
tag_key_len cipher kind =
    if authenc_key_len cipher == 0 then integrity_key_len kind else authenc_key_len cipher

-- the length of the cipher's part, by the cipher, the type of integrity tags, and the volume key's length
unfoldable pub cipher_key_len : Option Text → Option Text → Option ℕ → Option ℕ
cipher_key_len None kind bytes = None
cipher_key_len (Some cipher) kind bytes = option_map (λ n. n - tag_key_len (text_bytes cipher) kind) bytes

-- ---- the cipher's own key

-- its length in bytes, of a key of this length: XTS has two of equal length, and LRW one of 16 bytes besides
abbrev pub own_key_len : CipherMode → ℕ → ℕ
own_key_len Xts bytes = bytes / 2
own_key_len Lrw bytes = bytes - 16
own_key_len _ bytes = bytes

-- it is short. What is not encrypted has no key
abbrev pub is_short : CipherMode → ℕ → Bool
is_short Null bytes = false
is_short mode bytes = nat_lt (own_key_len mode bytes) least_key_len

-- the same if the length is known
abbrev pub is_known_short : CipherMode → Option ℕ → Bool
is_known_short mode None = false
is_known_short mode (Some bytes) = is_short mode bytes
