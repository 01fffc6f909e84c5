-- The checksum of a header of LUKS2 (LUKS2 On-Disk Format Specification 1.1, section 2.1, `csum`).
use Rattle.std.specs.Prelude.{ℕ, ◌++◌, Bool, false, List, bytes_eq, drop, replicate, take}
use Rattle.std.specs.Option.{option_map_or}
use Rattle.luks_format.specs.Fields.{at}
use Rattle.luks_kdf.specs.Hash.{hash_of, digest_len}
use Rattle.luks_format.specs.Header2.{checksum_hash_in}

-- a header and its JSON area with zeros in bytes 448 to 511, in place of the checksum
unfoldable pub without_checksum : List ℕ → List ℕ
without_checksum header = take 448 header ++ replicate 64 0 ++ drop 512 header

-- the checksum matches: it is the hash of the whole header and JSON area, with zeros in place of the checksum itself.
-- Only as many bytes of its field are compared as the hash has
unfoldable pub checksum_matches : List ℕ → Bool
checksum_matches header =
    option_map_or (λ hash. bytes_eq (hash_of hash (without_checksum header)) (at 448 (digest_len hash) header))
    (checksum_hash_in header) false
