-- The verdicts on the key slots of LUKS1.
use Rattle.std.specs.Prelude.{ℕ, ◌*◌, if◌then◌else◌, Bool, true, false, List, [], ◌∷◌, Option, Some, None, bytes_eq}
use Rattle.std.specs.Prelude.{codes, option_and_then, option_map, slice_get}
use Rattle.luks_cipher.specs.Sector.{mode_named}
use Rattle.luks_cipher.specs.declared.mode.Mode.{Mode}
use Rattle.luks_kdf.specs.Hash.{hash_named}
use Rattle.luks_kdf.specs.declared.hash.Hash.{Hash}
use Rattle.luks_format.specs.Rule.{iterations_out_of_range, area_out_of_range, stripes_out_of_range, key_material_len}
use Rattle.luks_format.specs.Slot.{digest_from, has_no_usable_digest, slot_from, verdict_by}
use Rattle.luks_format.specs.Table.{first_match}
use Rattle.luks_format.specs.declared.derivation.Derivation.TheVariants.{Pbkdf2}
use Rattle.luks_format.specs.declared.digest.DigestParts.{DigestParts}
use Rattle.luks_format.specs.declared.refusal.SkipReason.{SkipReason}
use Rattle.luks_format.specs.declared.refusal.SkipReason.TheVariants.{State, Stripes, Iterations, Area, Digest}
use Rattle.luks_format.specs.declared.slot.Slot.{Slot}
use Rattle.luks_format.specs.declared.slot.SlotParts.{SlotParts}
use Rattle.luks_format.specs.declared.slot.Verdict.{Verdict}
use Rattle.luks_format.specs.declared.slot.Verdict.TheVariants.{Disabled as VerdictDisabled, Skipped}
use Rattle.luks_format.specs.Header1.{header1_len}
use Rattle.luks_format.specs.declared.header.Header1.{Header1}
use Rattle.luks_format.specs.declared.header.StoredSlot.{StoredSlot}
use Rattle.luks_format.specs.declared.header.SlotState.{SlotState}
use Rattle.luks_format.specs.declared.header.SlotState.TheVariants.{Enabled, Disabled, Damaged}

-- the state is that of a slot that is not in use
abbrev pub is_disabled : SlotState → Bool
is_disabled Disabled = true
is_disabled _ = false

-- the hash function of the slots, the stripes and the digest, if its name is known
unfoldable pub hash1_of : Header1 → Option Hash
hash1_of header = hash_named header.hash_spec

-- the mode of AES for the sectors of the payload and of key material, if cipher and mode are known
unfoldable pub mode1_of : Header1 → Option Mode
mode1_of header = if bytes_eq header.cipher_name (codes "aes") then mode_named header.cipher_mode else None

-- the parts of the digest, which all slots share
unfoldable pub digest_parts1_of : Header1 → DigestParts
digest_parts1_of header = record {
  hash = hash1_of header;
  iterations = header.digest_iterations;
  salt = header.digest_salt;
  value = header.digest;
}

-- the payload's start, if the header is attached. Key material has to end there or before
unfoldable pub payload1_start : Header1 → Option ℕ
payload1_start header = if header.detached then None else Some (512 * header.payload_offset)

-- the key material of a slot does not fit. Its area has exactly the bytes that it needs
unfoldable pub area1_out_of_range : Header1 → StoredSlot → Bool
area1_out_of_range header slot =
    area_out_of_range header1_len (payload1_start header) (512 * slot.offset)
    (key_material_len header.key_bytes slot.stripes) (key_material_len header.key_bytes slot.stripes)

-- the reasons to skip a slot that is enabled
unfoldable pub slot_reasons1 : Header1 → Option ℕ → StoredSlot → List (Bool × SkipReason)
slot_reasons1 header limit slot =
    (stripes_out_of_range slot.stripes, Stripes)
    ∷ (iterations_out_of_range limit slot.iterations, Iterations)
    ∷ (area1_out_of_range header slot, Area)
    ∷ (has_no_usable_digest limit (digest_from (digest_parts1_of header)), Digest)
    ∷ []

-- the parts of a slot. The key of its key material is as long as the volume key
unfoldable pub slot_parts1_of : Header1 → StoredSlot → SlotParts
slot_parts1_of header slot = record {
  priority = 1;
  derivation = Pbkdf2 (hash1_of header) slot.iterations;
  salt = slot.salt;
  af_hash = hash1_of header;
  stripes = slot.stripes;
  key_bytes = header.key_bytes;
  area_key_bytes = header.key_bytes;
  area_offset = 512 * slot.offset;
  area_size = key_material_len header.key_bytes slot.stripes;
  area_mode = mode1_of header;
}

-- what is needed to open a slot, if its numbers are in range and there is a usable digest
unfoldable pub slot1_of : Header1 → StoredSlot → Option Slot
slot1_of header slot = slot_from (slot_parts1_of header slot) (digest_from (digest_parts1_of header))

-- the verdict on a slot in this state; `verdict` is what it is if the slot is enabled
abbrev pub verdict_in : SlotState → Verdict → Verdict
verdict_in Enabled verdict = verdict
verdict_in Disabled verdict = VerdictDisabled
verdict_in (Damaged _) verdict = Skipped State

-- the verdict on a slot
unfoldable pub verdict1_of : Header1 → Option ℕ → StoredSlot → Verdict
verdict1_of header limit slot =
    verdict_in slot.state (verdict_by (first_match (slot_reasons1 header limit slot)) (slot1_of header slot))

-- the verdict on the slot of this number, 0 to 7
unfoldable pub verdict1_at : Header1 → Option ℕ → ℕ → Option Verdict
verdict1_at header limit number = option_map (verdict1_of header limit) (slice_get header.slots number)

-- what is needed to open the slot of this number, if it is there, its numbers are in range and there is a usable digest
unfoldable pub slot1_at : Header1 → ℕ → Option Slot
slot1_at header number = option_and_then (slot1_of header) (slice_get header.slots number)
