-- The texts of a LUKS2 header: the fields of its binary header, its key slots, its segment and its digests.
use Rattle.std.specs.Prelude.{ℕ, ◌∷◌, ◌++◌, [], List, Option, Some, None, Result, Ok, Err, codes, flat_map, length}
use Rattle.std.specs.Fmt.{decimal}
use Rattle.luks_cipher.specs.Sector.{mode_name}
use Rattle.luks_kdf.specs.Hash.{hash_name}
use Rattle.luks_kdf.specs.declared.hash.Hash.{Hash}
use Rattle.luks_format.specs.SectorSize.{bytes_of}
use Rattle.luks_format.specs.SegmentFault.{fault_text}
use Rattle.luks_format.specs.SkipReason.{reason_text}
use Rattle.luks_format.specs.declared.refusal.SegmentFault.{SegmentFault}
use Rattle.luks_format.specs.declared.segment.Segment.{Segment}
use Rattle.luks_argon2.specs.declared.variant.Variant.{Variant}
use Rattle.luks_argon2.specs.declared.variant.Variant.TheVariants.{Argon2i, Argon2id}
use Rattle.luks_format.specs.declared.derivation.Derivation.{Derivation}
use Rattle.luks_format.specs.declared.derivation.Derivation.TheVariants.{Pbkdf2, Argon2}
use Rattle.luks_format.specs.declared.slot.SlotParts.{SlotParts}
use Rattle.luks_format.specs.declared.slot.Verdict.{Verdict}
use Rattle.luks_format.specs.declared.slot.Verdict.TheVariants.{Usable, Disabled, Skipped}
use Rattle.luks_format.specs.declared.binary_header2.Header2.{Header2}
use Rattle.luks_format.specs.declared.binary_header2.HeaderRole.{HeaderRole}
use Rattle.luks_format.specs.declared.binary_header2.HeaderRole.TheVariants.{Primary, Secondary}
use Rattle.luks2_metadata.specs.Digest2.{digests2_of}
use Rattle.luks2_metadata.specs.Segment2.{segment2_of}
use Rattle.luks2_metadata.specs.declared.luks2_digest.Digest.{Digest}
use Rattle.luks_header.specs.Header.{bounds2_of}
use Rattle.luks_header.specs.SlotVerdicts.{verdicts_of}
use Rattle.luks_header.specs.declared.header.Header.TheVariants.{V2}
use Rattle.serde_json.specs.Data.{Data}
use Rattle.luks_report.specs.DumpLine.{escaped, field}

-- ---- the binary header

-- which of the two headers it is
abbrev pub role_text : HeaderRole → List ℕ
role_text Primary = codes "primary"
role_text Secondary = codes "secondary"

-- the lines from the version to the header's length in bytes
unfoldable pub role_lines : Header2 → List ℕ
role_lines h =
    field (codes "Version") (codes "2")
    ++ field (codes "Header") (role_text h.role)
    ++ field (codes "Sequence") (decimal h.sequence)
    ++ field (codes "Header size") (decimal h.size)

-- the lines from the UUID to the hash function of the checksum
unfoldable pub text2_lines : Header2 → List ℕ
text2_lines h =
    field (codes "UUID") (escaped h.uuid)
    ++ field (codes "Label") (escaped h.label)
    ++ field (codes "Subsystem") (escaped h.subsystem)
    ++ field (codes "Checksum") (hash_name h.hash)

-- ---- key slots

-- the name of a hash function, or nothing if it is not known. (That of a usable LUKS2 key slot or digest always is.)
abbrev pub hash_text : Option Hash → List ℕ
hash_text None = []
hash_text (Some hash) = hash_name hash

-- the name of a variant of Argon2
abbrev pub variant_text : Variant → List ℕ
variant_text Argon2i = codes "argon2i"
variant_text Argon2id = codes "argon2id"

-- how the key of a slot is derived: by PBKDF2 with a hash function and iterations, or by Argon2. (No dump has a usable
-- key slot with Argon2.)
unfoldable pub kdf_text : Derivation → List ℕ
kdf_text (Pbkdf2 hash iterations) =
    codes "pbkdf2 hash=" ++ hash_text hash ++ codes " iterations=" ++ decimal iterations
kdf_text (Argon2 parameters) =
    variant_text parameters.variant ++ codes " time=" ++ decimal parameters.passes ++ codes " memory="
    ++ decimal parameters.memory_kib ++ codes " cpus=" ++ decimal parameters.lanes

-- the text of a key slot that can be tried: its priority, how its key is derived, and the offset and the size of its
-- area in bytes
unfoldable pub usable_text : SlotParts → List ℕ
usable_text parts =
    codes "USABLE priority=" ++ decimal parts.priority ++ codes " kdf=" ++ kdf_text parts.derivation
    ++ codes " offset=" ++ decimal parts.area_offset ++ codes " size=" ++ decimal parts.area_size

-- the text of a key slot. (No LUKS2 key slot is disabled.)
abbrev pub verdict_text : Verdict → List ℕ
verdict_text (Usable slot) = usable_text slot.parts
verdict_text Disabled = codes "DISABLED"
verdict_text (Skipped reason) = codes "SKIPPED " ++ reason_text reason

-- the line of a key slot with its number
abbrev pub slot2_line : ℕ × Verdict → List ℕ
slot2_line (number, verdict) = field (codes "Slot " ++ decimal number) (verdict_text verdict)

-- ---- the segment

-- the size of a segment: its length in bytes, or `dynamic` if it has no fixed length
abbrev pub size_text : Option ℕ → List ℕ
size_text None = codes "dynamic"
size_text (Some bytes) = decimal bytes

-- the text of a segment
unfoldable pub segment_text : Segment → List ℕ
segment_text segment =
    codes "offset=" ++ decimal segment.offset ++ codes " size=" ++ size_text segment.size
    ++ codes " iv=" ++ decimal segment.iv_tweak ++ codes " encryption=aes-" ++ mode_name segment.mode
    ++ codes " sector=" ++ decimal (bytes_of segment.sector_size)

-- the line of the segment, or of its fault
abbrev pub segment_line : Result Segment SegmentFault → List ℕ
segment_line (Ok segment) = field (codes "Segment 0") (segment_text segment)
segment_line (Err fault) = field (codes "Segment") (codes "REFUSED " ++ fault_text fault)

-- ---- digests

-- further names, after the first one
abbrev pub more_names : List (List ℕ) → List ℕ
more_names names = flat_map (λ name. codes "," ++ escaped name) names

-- names in their order, with commas between them
abbrev pub names_text : List (List ℕ) → List ℕ
names_text [] = []
names_text (name ∷ names) = escaped name ++ more_names names

-- the text of a usable digest: its hash function, iterations and length in bytes, and the names that it lists
unfoldable pub digest_text : Digest → List ℕ
digest_text digest =
    codes "USABLE hash=" ++ hash_text digest.key.parts.hash ++ codes " iterations="
    ++ decimal digest.key.parts.iterations
    ++ codes " bytes=" ++ decimal (length digest.key.parts.value) ++ codes " keyslots=" ++ names_text digest.keyslots
    ++ codes " segments=" ++ names_text digest.segments

-- the text of a digest, or that it is refused
abbrev pub listed_text : Option Digest → List ℕ
listed_text None = codes "REFUSED"
listed_text (Some digest) = digest_text digest

-- the line of a digest with its number
abbrev pub digest_line : ℕ × Option Digest → List ℕ
digest_line (number, digest) = field (codes "Digest " ++ decimal number) (listed_text digest)

-- ---- dumps

-- the dump of a header. The number of iterations has no limit here
unfoldable pub dump2_of : Header2 → Data → List ℕ
dump2_of h tree =
    role_lines h
    ++ text2_lines h
    ++ flat_map slot2_line (verdicts_of (V2 h tree) None)
    ++ segment_line (segment2_of tree (bounds2_of h))
    ++ flat_map digest_line (digests2_of tree)

-- the line with the UUID alone
unfoldable pub uuid2_line : Header2 → List ℕ
uuid2_line h = escaped h.uuid ++ 10 ∷ []
