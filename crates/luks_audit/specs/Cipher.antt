-- What a cipher's name says of how sectors are encrypted, in the notation of dm-crypt or of the kernel's crypto API.
use Rattle.std.specs.Prelude.{ℕ, ◌+◌, ◌&&◌, ◌||◌, ◌==◌, Bool, true, false, List, [], ◌∷◌, Option, Some, None, bytes_eq}
use Rattle.std.specs.Prelude.{codes, drop, if◌then◌else◌, length, option_map, position, slice_get, take, unwrap_or}
use Rattle.luks_audit.specs.declared.rows.CipherMode.{CipherMode}
use Rattle.luks_audit.specs.declared.rows.CipherMode.TheVariants.{Null, Ecb, Cbc, Xts, Lrw, Other}

-- a text, such as a mode of dm-crypt, begins with this word
unfoldable pub begins_with : List ℕ → List ℕ → Bool
begins_with word mode = bytes_eq (take (length word) mode) word

-- the bytes that separate the words of a cipher in the notation of the kernel's crypto API: `(`, `)`, `,`, `-` and `:`
abbrev pub is_mark : ℕ → Bool
is_mark byte = byte == 40 || byte == 41 || byte == 44 || byte == 45 || byte == 58

-- the first word of a text is this one: a mark follows it, or nothing does
abbrev pub ends_word : Option ℕ → Bool
ends_word None = true
ends_word (Some byte) = is_mark byte

unfoldable pub has_first_word : List ℕ → List ℕ → Bool
has_first_word word text = begins_with word text && ends_word (slice_get text (length word))

-- a word after a mark is this one
unfoldable pub has_word : List ℕ → List ℕ → Bool
has_word word [] = false
has_word word (byte ∷ rest) = (is_mark byte && has_first_word word rest) || has_word word rest

-- a cipher in that notation, which begins with `capi:`, has this word among its templates and ciphers:
-- `capi:cbc(aes)-essiv:sha256` and `capi:authenc(hmac(sha256),cbc(aes))-random` have `cbc`
unfoldable pub has_template : List ℕ → List ℕ → Bool
has_template word cipher = begins_with (codes "capi:") cipher && has_word word cipher

-- a mode, or a template, is this one
unfoldable pub uses_mode : List ℕ → List ℕ → List ℕ → Bool
uses_mode word cipher mode = begins_with word mode || has_template word cipher

-- nothing is encrypted: the cipher's name without its mode is dm-crypt's or cryptsetup's for that, or the kernel's
unfoldable pub is_null : List ℕ → List ℕ → Bool
is_null cipher name =
    bytes_eq name (codes "cipher_null") || bytes_eq name (codes "null") || has_template (codes "cipher_null") cipher

-- how a cipher encrypts sectors, by the cipher as it is named, the name in it, and its mode
unfoldable pub mode_of : List ℕ → List ℕ → List ℕ → CipherMode
mode_of cipher name mode =
    if is_null cipher name then Null
    else if uses_mode (codes "ecb") cipher mode then Ecb
    else if uses_mode (codes "cbc") cipher mode then Cbc
    else if uses_mode (codes "xts") cipher mode then Xts
    else if uses_mode (codes "lrw") cipher mode then Lrw
    else Other

-- ---- a cipher of LUKS2, which has its name and its mode in one text

-- the mode in a cipher's name: what follows the first dash
unfoldable pub mode_after_dash : List ℕ → List ℕ
mode_after_dash cipher =
    unwrap_or (option_map (λ dash. drop (dash + 1) cipher) (position (λ (byte : ℕ). byte == 45) cipher)) []

-- the name in a cipher's name: what precedes the first dash, or all of it
unfoldable pub name_before_dash : List ℕ → List ℕ
name_before_dash cipher =
    unwrap_or (option_map (λ dash. take dash cipher) (position (λ (byte : ℕ). byte == 45) cipher)) cipher

-- how a cipher encrypts sectors, if one is named
abbrev pub named_mode : List ℕ → CipherMode
named_mode cipher = mode_of cipher (name_before_dash cipher) (mode_after_dash cipher)

unfoldable pub cipher_mode2 : Option (List ℕ) → CipherMode
cipher_mode2 cipher = unwrap_or (option_map named_mode cipher) Other
