-- Key slots and digests, made from the parts that were read, and the verdicts on key slots.
use Rattle.std.specs.Prelude.{ℕ, ◌+◌, Bool, true, Option, Some, None, length, option_map}
use Rattle.std.specs.Option.{option_map_or}
use Rattle.luks_format.specs.Derivation.{is_in_range}
use Rattle.luks_format.specs.Rule.{evidence_if, is_digest, iterations_out_of_range, key_material_len}
use Rattle.luks_format.specs.declared.digest.DigestParts.{DigestParts}
use Rattle.luks_format.specs.declared.digest.KeyDigest.{KeyDigest}
use Rattle.luks_format.specs.declared.refusal.SkipReason.{SkipReason}
use Rattle.luks_format.specs.declared.refusal.SkipReason.TheVariants.{Member}
use Rattle.luks_format.specs.declared.slot.Slot.{Slot}
use Rattle.luks_format.specs.declared.slot.SlotParts.{SlotParts}
use Rattle.luks_format.specs.declared.slot.Verdict.{Verdict}
use Rattle.luks_format.specs.declared.slot.Verdict.TheVariants.{Usable, Disabled, Skipped}
use Rattle.luks_format.specs.declared.slot.VerdictKind.{VerdictKind}
use Rattle.luks_format.specs.declared.slot.VerdictKind.TheVariants.{Usable as KindUsable, Disabled as KindDisabled}
use Rattle.luks_format.specs.declared.slot.VerdictKind.TheVariants.{Skipped as KindSkipped}

-- the end of a key slot's key material in the image
abbrev pub material_end : SlotParts → ℕ
material_end parts = parts.area_offset + key_material_len parts.key_bytes parts.stripes

-- the key slot with these parts and this digest, if their numbers are in range and there is a digest
unfoldable pub slot_from : SlotParts → Option KeyDigest → Option Slot
slot_from parts (Some digest) =
    option_map (λ is. record { parts = parts; digest = digest; in_range = is })
    (evidence_if (is_in_range parts.derivation parts.stripes (material_end parts)))
slot_from parts None = None

-- a key slot can be tried if there is no reason to skip it. Without a reason the parts are in range and there is a
-- digest, so `Member` is never added here
abbrev pub verdict_by : Option SkipReason → Option Slot → Verdict
verdict_by reason slot = option_map_or Skipped reason (option_map_or Usable slot (Skipped Member))

-- the verdict on a key slot, without what is needed to open it
abbrev pub verdict_kind_of : Verdict → VerdictKind
verdict_kind_of (Usable slot) = KindUsable slot.parts.priority
verdict_kind_of Disabled = KindDisabled
verdict_kind_of (Skipped reason) = KindSkipped reason

-- the digest with these parts, if their numbers are in range
unfoldable pub digest_from : DigestParts → Option KeyDigest
digest_from parts =
    option_map (λ is. record { parts = parts; usable = is })
    (evidence_if (is_digest parts.iterations (length parts.value)))

-- there is no usable digest for a key slot, or its iterations are out of range
unfoldable pub has_no_usable_digest : Option ℕ → Option KeyDigest → Bool
has_no_usable_digest limit found = option_map_or (λ key. iterations_out_of_range limit key.parts.iterations) found true
