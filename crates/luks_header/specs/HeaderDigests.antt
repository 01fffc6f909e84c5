-- The digests of a header.
use Rattle.std.specs.Prelude.{ℕ, List, [], Option}
use Rattle.luks_format.specs.declared.digest.KeyDigest.{KeyDigest}
use Rattle.luks_format.specs.Slot.{digest_from}
use Rattle.luks_format.specs.Slot1.{digest_parts1_of}
use Rattle.luks2_metadata.specs.Digest2.{digest2_for, digests2_of}
use Rattle.luks2_metadata.specs.declared.luks2_digest.Digest.{Digest}
use Rattle.luks_header.specs.declared.header.Header.{Header}
use Rattle.luks_header.specs.declared.header.Header.TheVariants.{V1, V2}

-- the digest that the key slot of this number is opened against, if there is one. LUKS1 has one for all key slots
unfoldable pub digest_for : Header → ℕ → Option KeyDigest
digest_for (V1 header) number = digest_from (digest_parts1_of header)
digest_for (V2 header tree) number = digest2_for tree number

-- the digests by ascending number, each with the names that it lists, if it is usable. LUKS1 does not number its digest
unfoldable pub digests_of : Header → List (ℕ × Option Digest)
digests_of (V1 header) = []
digests_of (V2 header tree) = digests2_of tree
