-- The binary header of LUKS2: its fields (LUKS2 On-Disk Format Specification 1.1, section 2.1).
use Rattle.std.specs.Prelude.{ℕ, List, [], ◌∷◌, Option}
use Rattle.luks_format.specs.Fields.{at, be64, text_of}
use Rattle.luks_kdf.specs.Hash.{hash_named}
use Rattle.luks_kdf.specs.declared.hash.Hash.{Hash}

-- the length of a binary header in bytes. Its JSON area follows it
abbrev pub binary_len : ℕ
binary_len = 4096

-- the lengths that a header and its JSON area can have together, in bytes. They are also the offsets of secondary
-- headers
unfoldable pub sizes : List ℕ
sizes = 16384 ∷ 32768 ∷ 65536 ∷ 131072 ∷ 262144 ∷ 524288 ∷ 1048576 ∷ 2097152 ∷ 4194304 ∷ []

-- `hdr_size`: the length of the header and its JSON area, in bytes
unfoldable pub size_in : List ℕ → ℕ
size_in binary = be64 (at 8 8 binary)

-- `seqid`: the number that increases with each change of the header
unfoldable pub sequence_in : List ℕ → ℕ
sequence_in binary = be64 (at 16 8 binary)

-- `csum_alg`: the hash function of the checksum, if its name is known
unfoldable pub checksum_hash_in : List ℕ → Option Hash
checksum_hash_in binary = hash_named (text_of (at 72 32 binary))

-- `hdr_offset`: the header's own offset in bytes
unfoldable pub hdr_offset_in : List ℕ → ℕ
hdr_offset_in binary = be64 (at 256 8 binary)
