-- What is weak, judged by fields that headers of both formats have. A number that a header lacks counts as 0.
use Rattle.std.specs.Prelude.{ℕ, ◌&&◌, ◌||◌, ◌++◌, Bool, true, false, List, [], ◌∷◌, Option, Some, None, codes, decimal}
use Rattle.std.specs.Prelude.{flat_map, if◌then◌else◌, nat_le, nat_lt, option_and_then, option_map, unwrap_or}
use Rattle.luks_kdf.specs.Hash.{hash_named}
use Rattle.luks_kdf.specs.declared.hash.Hash.{Hash}
use Rattle.luks_kdf.specs.declared.hash.Hash.TheVariants.{Sha1, Sha224, Sha256, Sha384, Sha512}
use Rattle.luks_audit.specs.KeyLength.{cipher_key_len, is_known_short, is_short, least_key_len, own_key_len}
use Rattle.luks_audit.specs.Text.{text_bytes, text_value}
use Rattle.luks_audit.specs.Token.{has_random_key, is_named}
use Rattle.luks_audit.specs.Tree.{empty_object, optional_num, with_fields}
use Rattle.luks_audit.specs.declared.rows.CipherMode.{CipherMode}
use Rattle.luks_audit.specs.declared.rows.CipherMode.TheVariants.{Null, Ecb, Cbc}
use Rattle.luks_audit.specs.declared.rows.DigestRow.{DigestRow}
use Rattle.luks_audit.specs.declared.rows.PayloadRow.{PayloadRow}
use Rattle.luks_audit.specs.declared.rows.SlotRow.{SlotRow}
use Rattle.luks_audit.specs.declared.rows.TokenRow.{TokenRow}
use Rattle.luks_audit.specs.declared.text.Text.{Text}
use Rattle.luks_audit.specs.declared.text.Text.TheVariants.{Unicode}
use Rattle.luks_audit.specs.declared.weak_row.Part.{Part}
use Rattle.luks_audit.specs.declared.weak_row.Part.TheVariants.{Segment, Slot, Digest}
use Rattle.luks_audit.specs.declared.weak_row.Severity.{Severity}
use Rattle.luks_audit.specs.declared.weak_row.Severity.TheVariants.{Low, High}
use Rattle.luks_audit.specs.declared.weak_row.WeakRow.{WeakRow}
use Rattle.luks_audit.specs.declared.weak_row.Weakness.{Weakness}
use Rattle.luks_audit.specs.declared.weak_row.Weakness.TheVariants.{NullCipher, EcbMode, FewIterations, BrokenHash}
use Rattle.luks_audit.specs.declared.weak_row.Weakness.TheVariants.{CbcMode, ShortKey, LittleMemory, FewPasses}
use Rattle.luks_audit.specs.declared.weak_row.Weakness.TheVariants.{FewDigestIterations}
use Rattle.serde_json.specs.Data.{Data, string}

-- ---- the figures

-- the least number of iterations of PBKDF2 with this hash function (OWASP, Password Storage Cheat Sheet, 2023). OWASP
-- has no figure for SHA-224 and SHA-384: those of SHA-256 and SHA-512 apply, of which they are variants. A hash
-- function that is not known gets the highest figure
abbrev pub owasp_iterations : Option Hash → ℕ
owasp_iterations (Some Sha512) = 210000
owasp_iterations (Some Sha384) = 210000
owasp_iterations (Some Sha256) = 600000
owasp_iterations (Some Sha224) = 600000
owasp_iterations (Some Sha1) = 1300000
owasp_iterations None = 1300000

-- the least number of iterations: the requested one for every hash function, and otherwise OWASP's
abbrev pub least_iterations : Option ℕ → Option Hash → ℕ
least_iterations (Some minimum) hash = minimum
least_iterations None hash = owasp_iterations hash

-- the least memory of Argon2 in KiB: 64 MiB (RFC 9106, section 4, the second recommended option)
abbrev pub least_memory : ℕ
least_memory = 65536

-- the least number of passes of Argon2 over this memory in KiB: one over 2 GiB or more (RFC 9106, section 4, the first
-- recommended option), and otherwise three (the second one)
abbrev pub least_passes : ℕ → ℕ
least_passes memory = if nat_le 2097152 memory then 1 else 3

-- the least number of iterations of a digest (LUKS1 On-Disk Format Specification 1.2.3, section 2.1: the recommended
-- minimum)
abbrev pub least_digest_iterations : ℕ
least_digest_iterations = 1000

-- ---- the tests

-- the hash function that a text names, if it is known
abbrev pub hash_in : Option Text → Option Hash
hash_in text = option_and_then hash_named (option_map text_bytes text)

-- the hash function that a text names is SHA-1
abbrev pub is_sha1 : Option Hash → Bool
is_sha1 (Some Sha1) = true
is_sha1 _ = false

abbrev pub names_sha1 : Option Text → Bool
names_sha1 text = is_sha1 (hash_in text)

-- PBKDF2 has fewer iterations than the least number
abbrev pub has_few_iterations : Option ℕ → SlotRow → Bool
has_few_iterations minimum slot = is_named (codes "pbkdf2") slot.kdf
    && nat_lt (unwrap_or slot.iterations 0) (least_iterations minimum (hash_in slot.hash))

-- the key is derived by Argon2i or Argon2id
abbrev pub uses_argon2 : SlotRow → Bool
uses_argon2 slot = is_named (codes "argon2i") slot.kdf || is_named (codes "argon2id") slot.kdf

-- Argon2 has less memory than the least
abbrev pub has_little_memory : SlotRow → Bool
has_little_memory slot = uses_argon2 slot && nat_lt (unwrap_or slot.memory 0) least_memory

-- Argon2 has fewer passes than the least number for its memory
abbrev pub has_few_passes : SlotRow → Bool
has_few_passes slot =
    uses_argon2 slot && nat_lt (unwrap_or slot.time 0) (least_passes (unwrap_or slot.memory 0))

-- ---- weaknesses

-- a weakness of this part of the header by a number, which is below its limit
unfoldable pub by_limit : Weakness → Part → Severity → Option ℕ → ℕ → WeakRow
by_limit weakness part severity number limit = record {
  weakness = weakness;
  part = part;
  text = None;
  number = number;
  limit = Some limit;
  severity = severity;
}

-- a weakness by the name of a cipher or a hash function
unfoldable pub by_name : Weakness → Part → Severity → Option Text → WeakRow
by_name weakness part severity text = record {
  weakness = weakness;
  part = part;
  text = text;
  number = None;
  limit = None;
  severity = severity;
}

-- this weakness, if the test holds
abbrev pub found_if : Bool → WeakRow → List WeakRow
found_if holds row = if holds then row ∷ [] else []

-- by a cipher's mode
unfoldable pub cipher_weaknesses : Part → CipherMode → Option Text → List WeakRow
cipher_weaknesses part Null cipher = by_name NullCipher part High cipher ∷ []
cipher_weaknesses part Ecb cipher = by_name EcbMode part High cipher ∷ []
cipher_weaknesses part Cbc cipher = by_name CbcMode part Low cipher ∷ []
cipher_weaknesses part _ cipher = []

-- by the length of the cipher's own key
unfoldable pub key_weakness : Part → CipherMode → Option ℕ → WeakRow
key_weakness part mode bytes = by_limit ShortKey part Low (option_map (own_key_len mode) bytes) least_key_len

-- by the cost of deriving a key is severe, but not if the passphrase is a random key
abbrev pub cost_severity : SlotRow → List TokenRow → Severity
cost_severity slot tokens = if has_random_key slot.number tokens then Low else High

-- the hash function of the key derivation, or of the stripes, that is SHA-1
abbrev pub sha1_of : SlotRow → Option Text
sha1_of slot = if names_sha1 slot.hash then slot.hash else slot.af_hash

-- of how a key slot derives its key
unfoldable pub cost_weaknesses : Option ℕ → Severity → SlotRow → List WeakRow
cost_weaknesses minimum severity slot =
    found_if (has_few_iterations minimum slot)
    (by_limit FewIterations (Slot slot.number) severity slot.iterations
    (least_iterations minimum (hash_in slot.hash)))
    ++ found_if (has_little_memory slot)
    (by_limit LittleMemory (Slot slot.number) severity slot.memory least_memory)
    ++ found_if (has_few_passes slot)
    (by_limit FewPasses (Slot slot.number) Low slot.time (least_passes (unwrap_or slot.memory 0)))

-- of its hash functions, and of how its key material is encrypted
unfoldable pub area_weaknesses : SlotRow → List WeakRow
area_weaknesses slot =
    found_if (names_sha1 slot.hash || names_sha1 slot.af_hash) (by_name BrokenHash (Slot slot.number) Low
    (sha1_of slot))
    ++ cipher_weaknesses (Slot slot.number) slot.mode slot.area_cipher
    ++ found_if (is_short slot.mode (unwrap_or slot.area_key_bytes 0))
    (key_weakness (Slot slot.number) slot.mode slot.area_key_bytes)

-- of a key slot, if it holds a key
unfoldable pub slot_weaknesses : Option ℕ → List TokenRow → SlotRow → List WeakRow
slot_weaknesses minimum tokens slot =
    if slot.holds_key then cost_weaknesses minimum (cost_severity slot tokens) slot ++ area_weaknesses slot else []

-- of a digest
unfoldable pub digest_weaknesses : DigestRow → List WeakRow
digest_weaknesses digest =
    found_if (names_sha1 digest.hash) (by_name BrokenHash (Digest digest.number) Low digest.hash)
    ++ found_if (nat_lt (unwrap_or digest.iterations 0) least_digest_iterations)
    (by_limit FewDigestIterations (Digest digest.number) Low digest.iterations least_digest_iterations)

-- the length of the part of the volume key that is the cipher's
abbrev pub segment_key_len : PayloadRow → Option ℕ
segment_key_len row = cipher_key_len row.cipher row.integrity row.key_bytes

-- of the segment, and that a segment of type `linear` is not encrypted
unfoldable pub segment_weaknesses : PayloadRow → List WeakRow
segment_weaknesses row =
    found_if row.has_linear (by_name NullCipher Segment High (Some (Unicode (codes "linear"))))
    ++ cipher_weaknesses Segment row.mode row.cipher
    ++ found_if (is_known_short row.mode (segment_key_len row)) (key_weakness Segment row.mode (segment_key_len row))

-- everything that is weak, with this minimum of iterations, or OWASP's
unfoldable pub weak_list : Option ℕ → PayloadRow → List SlotRow → List DigestRow → List TokenRow → List WeakRow
weak_list minimum payload slots digests tokens =
    segment_weaknesses payload
    ++ flat_map (slot_weaknesses minimum tokens) slots
    ++ flat_map digest_weaknesses digests

-- a weakness of this severity makes a header flawed, if the requested one does
abbrev pub fails : Severity → Severity → Bool
fails High Low = false
fails least severity = true

unfoldable pub any_fails : Severity → List WeakRow → Bool
any_fails least [] = false
any_fails least (row ∷ rest) = fails least row.severity || any_fails least rest

-- ---- how a weakness is listed

abbrev pub weakness_name : Weakness → List ℕ
weakness_name NullCipher = codes "null-cipher"
weakness_name EcbMode = codes "ecb"
weakness_name FewIterations = codes "iterations"
weakness_name BrokenHash = codes "sha1"
weakness_name CbcMode = codes "cbc"
weakness_name ShortKey = codes "short-key"
weakness_name LittleMemory = codes "argon2-memory"
weakness_name FewPasses = codes "argon2-time"
weakness_name FewDigestIterations = codes "digest-iterations"

abbrev pub severity_name : Severity → List ℕ
severity_name Low = codes "low"
severity_name High = codes "high"

-- a part of a header, with its number
abbrev pub part_text : Part → List ℕ
part_text Segment = codes "segment"
part_text (Slot number) = codes "slot " ++ decimal number
part_text (Digest number) = codes "digest " ++ decimal number

-- the name or the number that is weak
abbrev pub weak_by : WeakRow → Data
weak_by row = unwrap_or (option_map text_value row.text) (optional_num row.number)

unfoldable pub weak_value : WeakRow → Data
weak_value row = with_fields (
    (codes "name", string (weakness_name row.weakness))
    ∷ (codes "place", string (part_text row.part))
    ∷ (codes "value", weak_by row)
    ∷ (codes "limit", optional_num row.limit)
    ∷ (codes "severity", string (severity_name row.severity))
    ∷ []) empty_object
