-- The digests of LUKS2 (LUKS2 On-Disk Format Specification 1.1, section 3, the digests object).
use Rattle.std.specs.Prelude.{ℕ, ◌&&◌, Bool, List, [], Option, None, codes, decimal, is_some, if◌then◌else◌}
use Rattle.std.specs.Prelude.{option_and_then, option_map, unwrap_or}
use Rattle.luks_format.specs.Slot.{digest_from}
use Rattle.luks_format.specs.Rule.{max_slots}
use Rattle.luks_format.specs.Table.{ascending}
use Rattle.luks_format.specs.declared.digest.DigestParts.{DigestParts}
use Rattle.luks_format.specs.declared.digest.KeyDigest.{KeyDigest}
use Rattle.luks2_json.specs.List.{has_strings, array_contains, strings_at}
use Rattle.luks2_json.specs.Member.{base64_member, hash_member, integer_member, is_type}
use Rattle.luks2_json.specs.Numbered.{lowest, object_numbered}
use Rattle.luks2_metadata.specs.declared.luks2_digest.Digest.{Digest}
use Rattle.serde_json.specs.Data.{Data}

-- every member of the digest is present and of the right type, and its hash function is known
unfoldable pub is_digest2 : Data → Bool
is_digest2 digest =
    is_type (codes "pbkdf2") digest
    && has_strings (codes "keyslots") digest
    && has_strings (codes "segments") digest
    && is_some (hash_member digest)
    && is_some (integer_member (codes "iterations") digest)
    && is_some (base64_member (codes "salt") digest)
    && is_some (base64_member (codes "digest") digest)

-- the values of a digest's members. Each is 0, no bytes or `None` if the member is missing or of another type, or names
-- a hash function that is not known
abbrev pub digest_parts2_of : Data → DigestParts
digest_parts2_of digest = record {
  hash = hash_member digest;
  iterations = unwrap_or (integer_member (codes "iterations") digest) 0;
  salt = unwrap_or (base64_member (codes "salt") digest) [];
  value = unwrap_or (base64_member (codes "digest") digest) [];
}

-- the digest, if it is usable: it has all its members, and its numbers are in range
unfoldable pub digest2_of : Data → Option KeyDigest
digest2_of digest = if is_digest2 digest then digest_from (digest_parts2_of digest) else None

-- the digest lists the key slot with this number, and segment 0
unfoldable pub is_of_slot : ℕ → Data → Bool
is_of_slot number digest =
    array_contains (codes "keyslots") (decimal number) digest && array_contains (codes "segments") (codes "0") digest

-- digest number n, if it is usable and belongs to the key slot with this number
unfoldable pub own_digest_at : Data → ℕ → ℕ → Option KeyDigest
own_digest_at tree number n =
    option_and_then (λ digest. if is_of_slot number digest then digest2_of digest else None)
    (object_numbered (codes "digests") tree n)

-- the digest that the key slot with this number is opened against: the lowest-numbered usable digest that belongs to it
unfoldable pub digest2_for : Data → ℕ → Option KeyDigest
digest2_for tree number = lowest (own_digest_at tree number) max_slots

-- the iterations of a digest
abbrev pub iterations_of_digest : KeyDigest → ℕ
iterations_of_digest key = key.parts.iterations

-- a digest as dumps print it, if it is usable: with the names that it lists
unfoldable pub listed_of : Data → Option Digest
listed_of digest =
    option_map (λ key. record {
      key = key;
      keyslots = strings_at (codes "keyslots") digest;
      segments = strings_at (codes "segments") digest;
    }) (digest2_of digest)

-- digest number n, paired with its number, if there is one
abbrev pub digest2_numbered : Data → ℕ → Option (ℕ × Option Digest)
digest2_numbered tree n = option_map (λ digest. (n, listed_of digest)) (object_numbered (codes "digests") tree n)

-- the digests by ascending number
unfoldable pub digests2_of : Data → List (ℕ × Option Digest)
digests2_of tree = ascending (digest2_numbered tree) max_slots
