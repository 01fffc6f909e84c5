-- Where a header may begin: a test that no header fails, by the magic bytes alone (LUKS1 On-Disk Format Specification
-- 1.2.3, section 2.1; LUKS2 On-Disk Format Specification 1.1, section 2.1).
use Rattle.std.specs.Prelude.{◌≡◌, ◌*◌, ℕ, ◌||◌, Bool, false, List, [], ◌∷◌, bytes_eq, drop, take}
use Rattle.std.specs.List.{list_any}
use Rattle.luks_format.specs.Header2.{sizes}

-- the bytes begin with the magic bytes of a header: LUKS, or SKUL of a secondary one, and BA BE
unfoldable pub begins_magic : List ℕ → Bool
begins_magic bytes =
    bytes_eq (take 6 bytes) (0x4c ∷ 0x55 ∷ 0x4b ∷ 0x53 ∷ 0xba ∷ 0xbe ∷ [])
    || bytes_eq (take 6 bytes) (0x53 ∷ 0x4b ∷ 0x55 ∷ 0x4c ∷ 0xba ∷ 0xbe ∷ [])

-- the bytes begin with the magic bytes, or have them at one of the nine offsets of secondary headers
unfoldable pub may_have_header : List ℕ → Bool
may_have_header bytes = begins_magic bytes || list_any (λ size. begins_magic (drop size bytes)) sizes

-- no sector of 512 bytes begins with the magic bytes
abbrev pub IsQuiet : List ℕ → Type 0
IsQuiet bytes = (k : ℕ) → begins_magic (drop (512 * k) bytes) ≡ false
