-- The verdicts on the key slots of a header: whether each can be tried, and if not, why.
use Rattle.std.specs.Prelude.{ℕ, Bool, true, false, List, Option, Some, option_map}
use Rattle.luks_format.specs.Derivation.{without_argon2}
use Rattle.luks_format.specs.Rule.{max_slots}
use Rattle.luks_format.specs.Table.{ascending}
use Rattle.luks_format.specs.declared.derivation.Limits.{Limits}
use Rattle.luks_format.specs.declared.slot.Slot.{Slot}
use Rattle.luks_format.specs.declared.slot.Verdict.{Verdict}
use Rattle.luks_format.specs.declared.slot.Verdict.TheVariants.{Usable}
use Rattle.luks_format.specs.Slot1.{slot1_at, verdict1_at}
use Rattle.luks2_json.specs.Numbered.{has_key_out_of_range}
use Rattle.luks2_metadata.specs.Slot2.{slot2_at, verdict2_at}
use Rattle.luks_header.specs.Header.{bounds2_of}
use Rattle.luks_header.specs.declared.header.Header.{Header}
use Rattle.luks_header.specs.declared.header.Header.TheVariants.{V1, V2}

-- the verdict on the key slot of this number within these limits, if the header has one
unfoldable pub verdict_within : Header → Limits → ℕ → Option Verdict
verdict_within (V1 header) limits number = verdict1_at header limits.max_iterations number
verdict_within (V2 header tree) limits number = verdict2_at tree (bounds2_of header) limits number

-- the verdict without Argon2
abbrev pub verdict_at : Header → Option ℕ → ℕ → Option Verdict
verdict_at header limit number = verdict_within header (without_argon2 limit) number

-- a key slot with this verdict can be tried
abbrev pub can_be_tried : Option Verdict → Bool
can_be_tried (Some (Usable slot)) = true
can_be_tried verdict = false

-- what is needed to open the key slot of this number. A LUKS1 slot that exists has it if its numbers are in range and
-- there is a usable digest, whatever its state and the limits; a LUKS2 slot that exists has it if there is no reason to
-- skip it within these limits
unfoldable pub slot_within : Header → Limits → ℕ → Option Slot
slot_within (V1 header) limits number = slot1_at header number
slot_within (V2 header tree) limits number = slot2_at tree (bounds2_of header) limits number

-- the verdict with the number of its key slot, if there is a verdict
abbrev pub with_number : ℕ → Option Verdict → Option (ℕ × Verdict)
with_number number verdict = option_map (λ v. (number, v)) verdict

-- the verdict on the key slot of this number, with the number, if the header has the slot
abbrev pub numbered_verdict : Header → Option ℕ → ℕ → Option (ℕ × Verdict)
numbered_verdict header limit number = with_number number (verdict_at header limit number)

-- the key slots of a header with their verdicts, by ascending number
unfoldable pub verdicts_of : Header → Option ℕ → List (ℕ × Verdict)
verdicts_of header limit = ascending (numbered_verdict header limit) max_slots

-- a member of the object of key slots has a name that is out of range. The key slots of LUKS1 have no names
unfoldable pub has_name_out_of_range : Header → Bool
has_name_out_of_range (V1 header) = false
has_name_out_of_range (V2 header tree) = has_key_out_of_range tree
