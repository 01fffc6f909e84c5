-- The texts of a LUKS1 header.
use Rattle.std.specs.Prelude.{ℕ, ◌∷◌, ◌++◌, [], List, codes, suc}
use Rattle.std.specs.Fmt.{decimal}
use Rattle.std.specs.Int.{to_be_bytes, w32}
use Rattle.hex.specs.Hex.{encode_lower}
use Rattle.luks_format.specs.declared.header.Header1.{Header1}
use Rattle.luks_format.specs.declared.header.StoredSlot.{StoredSlot}
use Rattle.luks_format.specs.declared.header.SlotState.{SlotState}
use Rattle.luks_format.specs.declared.header.SlotState.TheVariants.{Enabled, Disabled, Damaged}
use Rattle.luks_report.specs.DumpLine.{escaped, field}

-- the text of a key slot that is in use: its iterations, its salt in hexadecimal digits, its area's offset in sectors
-- of 512 bytes, and its stripes
abbrev pub enabled_text : ℕ → List ℕ → ℕ → ℕ → List ℕ
enabled_text iterations salt offset stripes =
    codes "ENABLED iterations=" ++ decimal iterations ++ codes " salt=" ++ salt
    ++ codes " offset=" ++ decimal offset ++ codes " stripes=" ++ decimal stripes

-- the text of a key slot in this state
unfoldable pub state_text : StoredSlot → SlotState → List ℕ
state_text slot Enabled = enabled_text slot.iterations (encode_lower slot.salt) slot.offset slot.stripes
state_text slot Disabled = codes "DISABLED"
state_text slot (Damaged number) = codes "DAMAGED state=" ++ encode_lower (to_be_bytes w32 number)

-- the line of the key slot with this number
unfoldable pub slot1_line : ℕ → StoredSlot → List ℕ
slot1_line number slot = field (codes "Slot " ++ decimal number) (state_text slot slot.state)

-- the lines of key slots, the first of which has this number
unfoldable pub slot1_lines : ℕ → List StoredSlot → List ℕ
slot1_lines number [] = []
slot1_lines number (slot ∷ slots) = slot1_line number slot ++ slot1_lines (suc number) slots

-- the line of the cipher and its mode
unfoldable pub cipher_line : Header1 → List ℕ
cipher_line h = field (codes "Cipher") (escaped h.cipher_name ++ codes "-" ++ escaped h.cipher_mode)

-- the lines from the version to the hash
unfoldable pub text1_lines : Header1 → List ℕ
text1_lines h =
    field (codes "Version") (codes "1")
    ++ field (codes "UUID") (escaped h.uuid)
    ++ cipher_line h
    ++ field (codes "Hash") (escaped h.hash_spec)

-- the lines from the payload's offset, in sectors of 512 bytes, to the iterations of the digest
unfoldable pub number_lines : Header1 → List ℕ
number_lines h =
    field (codes "Payload offset") (decimal h.payload_offset)
    ++ field (codes "Key bytes") (decimal h.key_bytes)
    ++ field (codes "MK digest") (encode_lower h.digest)
    ++ field (codes "MK salt") (encode_lower h.digest_salt)
    ++ field (codes "MK iterations") (decimal h.digest_iterations)

-- the dump of a header
unfoldable pub dump1_of : Header1 → List ℕ
dump1_of h = text1_lines h ++ number_lines h ++ slot1_lines 0 h.slots

-- the line with the UUID alone
unfoldable pub uuid1_line : Header1 → List ℕ
uuid1_line h = escaped h.uuid ++ 10 ∷ []
