-- The tokens of a key slot (LUKS2 On-Disk Format Specification 1.1, section 3.6).
use Rattle.std.specs.Prelude.{ℕ, ◌&&◌, ◌||◌, Bool, false, List, [], ◌∷◌, Option, bytes_eq, codes, decimal, flat_map}
use Rattle.std.specs.Prelude.{if◌then◌else◌, option_map, unwrap_or}
use Rattle.luks_audit.specs.Text.{optional_text, text_bytes}
use Rattle.luks_audit.specs.Tree.{empty_object, num, with_fields}
use Rattle.luks_audit.specs.declared.rows.TokenRow.{TokenRow}
use Rattle.luks_audit.specs.declared.text.Text.{Text}
use Rattle.serde_json.specs.Data.{Data}

-- the text is one of the names
unfoldable pub is_among : List ℕ → List (List ℕ) → Bool
is_among text [] = false
is_among text (name ∷ rest) = bytes_eq text name || is_among text rest

-- the token is for the key slot of this number: it names the slot
abbrev pub is_for : ℕ → TokenRow → Bool
is_for slot token = is_among (decimal slot) token.keyslots

-- the text is there, and is the expected one
abbrev pub is_named : List ℕ → Option Text → Bool
is_named expected text = unwrap_or (option_map (λ t. bytes_eq expected (text_bytes t)) text) false

-- the type of a token says that the slot's passphrase is a random key, which a TPM, a security key, a smart card or a
-- server releases, or which was printed for recovery: the types of systemd-cryptenroll and of Clevis
abbrev pub is_of_random_key : TokenRow → Bool
is_of_random_key token =
    is_named (codes "systemd-tpm2") token.kind || is_named (codes "systemd-fido2") token.kind
    || is_named (codes "systemd-pkcs11") token.kind || is_named (codes "systemd-recovery") token.kind
    || is_named (codes "clevis") token.kind

-- such a token is for the key slot of this number
unfoldable pub has_random_key : ℕ → List TokenRow → Bool
has_random_key slot [] = false
has_random_key slot (token ∷ rest) = (is_for slot token && is_of_random_key token) || has_random_key slot rest

-- ---- what a key slot lists of its tokens

unfoldable pub token_name : TokenRow → Data
token_name token =
    with_fields ((codes "number", num token.number) ∷ (codes "type", optional_text token.kind) ∷ []) empty_object

unfoldable pub named_token : ℕ → TokenRow → List Data
named_token slot token = if is_for slot token then token_name token ∷ [] else []

abbrev pub slot_tokens : ℕ → List TokenRow → List Data
slot_tokens slot tokens = flat_map (named_token slot) tokens
