-- The digest that the volume key of a header has to match, and comparing a key with it.
use Rattle.std.specs.Prelude.{ℕ, Bool, List, [], ◌∷◌, Option, Some, None, bytes_eq, codes, if◌then◌else◌, length}
use Rattle.std.specs.List.{list_any}
use Rattle.std.specs.Option.{option_or}
use Rattle.luks_format.specs.Rule.{iterations_out_of_range}
use Rattle.luks_format.specs.declared.digest.KeyDigest.{KeyDigest}
use Rattle.luks2_metadata.specs.declared.luks2_digest.Digest.{Digest}
use Rattle.luks_header.specs.HeaderDigests.{digest_for, digests_of}
use Rattle.luks_header.specs.declared.header.Header.{Header}
use Rattle.luks_open.specs.Candidate.{matches_digest}
use Rattle.luks_open.specs.Deriving.{evaluations}
use Rattle.luks_open.specs.declared.volume_key.KeyCheck.{KeyCheck}
use Rattle.luks_open.specs.declared.volume_key.KeyCheck.TheVariants.{Matches, Differs, NoDigest}

-- the names have that of segment 0
abbrev pub lists_segment : List (List ℕ) → Bool
lists_segment names = list_any (bytes_eq (codes "0")) names

-- a usable digest that lists segment 0
abbrev pub own_key : Option Digest → Option KeyDigest
own_key (Some digest) = if lists_segment digest.segments then Some digest.key else None
own_key None = None

-- the first usable digest that lists segment 0
unfoldable pub first_of_segment : List (ℕ × Option Digest) → Option KeyDigest
first_of_segment [] = None
first_of_segment (digest ∷ digests) = option_or (own_key digest.1) (first_of_segment digests)

-- the digest that the volume key of a header has to match, if there is one: the lowest-numbered usable digest that
-- lists segment 0. A header that does not number its digest has the same one for each key slot, and so for number 0; in
-- other headers the digest of a key slot lists segment 0, too
unfoldable pub key_digest_of : Header → Option KeyDigest
key_digest_of header = option_or (first_of_segment (digests_of header)) (digest_for header 0)

-- what comparing a key with a digest gives, if there is one, with this limit on iterations
unfoldable pub compared : Option ℕ → Option KeyDigest → List ℕ → KeyCheck
compared limit None key = NoDigest
compared limit (Some digest) key =
    if iterations_out_of_range limit digest.parts.iterations then NoDigest
    else if matches_digest digest key then Matches else Differs

-- the evaluations of HMAC that this costs
unfoldable pub comparing_costs : Option ℕ → Option KeyDigest → ℕ
comparing_costs limit None = 0
comparing_costs limit (Some digest) =
    if iterations_out_of_range limit digest.parts.iterations then 0
    else evaluations digest.parts.hash digest.parts.iterations (length digest.parts.value)
