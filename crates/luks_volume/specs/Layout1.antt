-- The image of a volume of LUKS1 (LUKS1 On-Disk Format Specification 1.2.3, section 4).
use Rattle.std.specs.Prelude.{◌==◌, ℕ, ◌+◌, ◌*◌, List, [], ◌∷◌, ◌++◌, codes, find, length, Option, None, Some}
use Rattle.std.specs.Int.{to_be_bytes, w32}
use Rattle.std.specs.Option.{option_map_or}
use Rattle.luks_cipher.specs.Sector.{mode_name}
use Rattle.luks_kdf.specs.Bytes.{joined}
use Rattle.luks_kdf.specs.Hash.{hash_name}
use Rattle.luks_kdf.specs.Pbkdf2.{derived_key}
use Rattle.luks_volume.specs.Pieces.{encrypted_material, padded, sectors_encrypted, stripes_of}
use Rattle.luks_volume.specs.Ranges1.{area_sectors, Seal1, Slot1}

-- the slot of this number, if it is in use
abbrev pub slot1_numbered : ℕ → List Slot1 → Option Slot1
slot1_numbered number slots = find (λ (slot : Slot1). slot.number == number) slots

-- the length of an area in sectors of 512 bytes
abbrev pub area_sectors_of : Seal1 → ℕ
area_sectors_of p = area_sectors (length p.key.now) p.stripes

-- `magic`, `version`, `cipher-name` and `cipher-mode`
unfoldable pub start1_of : Seal1 → List ℕ
start1_of p = (codes "LUKS" ++ 186 ∷ 190 ∷ 0 ∷ 1 ∷ []) ++ padded 32 (codes "aes") ++ padded 32 (mode_name p.mode)

-- `hash-spec`, `payload-offset` and `key-bytes`
unfoldable pub middle1_of : Seal1 → List ℕ
middle1_of p =
    padded 32 (hash_name p.hash) ++ to_be_bytes w32 p.payload_sectors ++ to_be_bytes w32 (length p.key.now)

-- `mk-digest`, which is PBKDF2 of the key, `mk-digest-salt` and `mk-digest-iter`
unfoldable pub digest1_fields : Seal1 → List ℕ
digest1_fields p =
    derived_key p.hash p.key.now p.digest_salt p.digest_iterations 20 ++ p.digest_salt
    ++ to_be_bytes w32 p.digest_iterations

-- the header up to the key slots, which ends with `uuid`
unfoldable pub fields1_of : Seal1 → List ℕ
fields1_of p = start1_of p ++ middle1_of p ++ digest1_fields p ++ padded 40 p.uuid.now

-- `active`, `iterations` and `salt` of a slot, in use or not
unfoldable pub state1_of : Option Slot1 → List ℕ
state1_of (Some slot) = to_be_bytes w32 0x00ac71f3 ++ to_be_bytes w32 slot.iterations ++ slot.salt
state1_of None = to_be_bytes w32 0x0000dead ++ padded 36 []

-- a key slot, which ends with `key-material-offset` in sectors and `stripes`
unfoldable pub key_slot1_of : Seal1 → ℕ → List ℕ
key_slot1_of p number =
    state1_of (slot1_numbered number p.slots.now) ++ to_be_bytes w32 (8 + number * area_sectors_of p)
    ++ to_be_bytes w32 p.stripes

-- the key that encrypts a slot's area: PBKDF2 of the passphrase
unfoldable pub area_key1_of : Seal1 → Slot1 → List ℕ
area_key1_of p slot = derived_key p.hash slot.passphrase.now slot.salt slot.iterations (length p.key.now)

-- a slot's key material
unfoldable pub material1_of : Seal1 → Slot1 → List ℕ
material1_of p slot =
    encrypted_material (p.mode, area_key1_of p slot) (stripes_of p.hash p.key.now p.stripes slot.random.now)

-- the area of the slot of this number: its key material if it is in use, and otherwise zeros
unfoldable pub area1_of : Seal1 → ℕ → List ℕ
area1_of p number =
    padded (area_sectors_of p * 512) (option_map_or (material1_of p) (slot1_numbered number p.slots.now) [])

-- the payload, its sectors of 512 bytes numbered from 0
unfoldable pub payload1_bytes : Seal1 → List ℕ
payload1_bytes p = sectors_encrypted (p.mode, p.key.now) 0 1 512 p.plain.now

-- the header with its eight key slots, and zeros to sector 8
unfoldable pub header1_bytes : Seal1 → List ℕ
header1_bytes p = padded 4096 (fields1_of p ++ joined (key_slot1_of p) 8)

-- the whole image: the areas of the eight slots follow the header, and the payload begins at its sector
unfoldable pub image1_of : Seal1 → List ℕ
image1_of p = padded (p.payload_sectors * 512) (header1_bytes p ++ joined (area1_of p) 8) ++ payload1_bytes p
