-- Without limits for Argon2 no key slot is skipped for a reason that only a program with Argon2 has.
use Rattle.std.proofs.Common.{◌≡◌, ◌⊎◌, inl, inr, ℕ, Bool, true, false, refl, subst, List, [], ◌∷◌, Option, Some, None}
use Rattle.std.proofs.Common.{Err}
use Rattle.std.specs.Prelude.{IfErr, IfOk, IfSome, if◌then◌else◌, is_none, is_some, ok_or, option_map, slice_get, codes}
use Rattle.std.specs.List.{AllByRecursion}
use Rattle.std.specs.Option.{option_or}
use Rattle.std.proofs.lemmas.Option.{same_Some}
use Rattle.serde_json.specs.Data.{Data}
use Rattle.luks_format.specs.Derivation.{derivation_refusal, has_known_hash, is_allowed}
use Rattle.luks_format.specs.Rule.{iterations_out_of_range, max_slots}
use Rattle.luks_format.specs.Slot.{slot_from, verdict_by}
use Rattle.luks_format.specs.Slot1.{slot1_of, slot_reasons1, verdict1_at, verdict1_of, verdict_in}
use Rattle.luks_format.specs.Table.{ascending, first_match}
use Rattle.luks_format.specs.declared.derivation.Argon2Limits.{Argon2Limits}
use Rattle.luks_format.specs.declared.derivation.Derivation.{Derivation}
use Rattle.luks_format.specs.declared.derivation.Derivation.TheVariants.{Pbkdf2, Argon2}
use Rattle.luks_format.specs.declared.derivation.Limits.{Limits}
use Rattle.luks_format.specs.declared.header.Header1.{Header1}
use Rattle.luks_format.specs.declared.header.SlotState.{SlotState}
use Rattle.luks_format.specs.declared.header.SlotState.TheVariants.{Enabled, Disabled as StateDisabled, Damaged}
use Rattle.luks_format.specs.declared.header.StoredSlot.{StoredSlot}
use Rattle.luks_format.specs.declared.refusal.SkipReason.{SkipReason}
use Rattle.luks_format.specs.declared.refusal.SkipReason.TheVariants.{Iterations}
use Rattle.luks_format.specs.declared.slot.Slot.{Slot}
use Rattle.luks_format.specs.declared.slot.Verdict.{Verdict}
use Rattle.luks_format.specs.declared.slot.Verdict.TheVariants.{Usable, Disabled, Skipped}
use Rattle.luks_format.proofs.TableLemmas.{All-ascending}
use Rattle.luks2_json.specs.Numbered.{object_numbered}
use Rattle.luks2_metadata.specs.Digest2.{digest2_for}
use Rattle.luks2_metadata.specs.Kdf2.{kdf2_of}
use Rattle.luks2_metadata.specs.Segment2.{payload_mode2_of}
use Rattle.luks2_metadata.specs.Slot2.{form_reasons, material_reasons, place_reasons, reason2_of}
use Rattle.luks2_metadata.specs.Slot2.{slot_parts2_of, verdict2_at, verdict2_of}
use Rattle.luks2_metadata.specs.declared.bounds.Bounds.{Bounds}
use Rattle.luks2_metadata.proofs.SlotLemmas.{allowed}
use Rattle.luks_header.specs.Header.{bounds2_of}
use Rattle.luks_header.specs.SlotVerdicts.{verdict_within}
use Rattle.luks_header.specs.declared.header.Header.{Header}
use Rattle.luks_header.specs.declared.header.Header.TheVariants.{V1, V2}
use Rattle.luks_open.specs.Opening.{OrderModel, first_opening, opening_of, order_of_named, order_within}
use Rattle.luks_open.specs.Opening.{skipped_at, skipped_with_reason, unless_none}
use Rattle.luks_open.specs.Reasons.{FaultWithoutArgon2, NoneOfArgon2, OpensWithoutArgon2, is_of_argon2}
use Rattle.luks_open.specs.Volume.{IfRefused, MatchesHeader, TriesSlots, described}
use Rattle.luks_open.specs.declared.allowed.AllowedSlots.{AllowedSlots}
use Rattle.luks_open.specs.declared.entry.Entry.{Entry}
use Rattle.luks_open.specs.declared.fault.OpenFault.{OpenFault}
use Rattle.luks_open.specs.declared.fault.OpenFault.TheVariants.{Memory, NoKey}
use Rattle.luks_open.specs.declared.fault.VolumeFault.{VolumeFault}
use Rattle.luks_open.specs.declared.fault.VolumeFault.TheVariants.{Argon2Memory, Slots}
use Rattle.luks_open.specs.declared.found.FoundVolume.{FoundVolume}
use Rattle.luks_open.specs.declared.opening.Opened.{Opened}
use Rattle.luks_open.specs.declared.unlocked.UnlockedVolume.{UnlockedVolume}

-- ---- the verdict on a key slot

-- the reason is another one
abbrev IsOther : SkipReason → Type 0
IsOther reason = is_of_argon2 reason ≡ false

first_other : (lines : List (Bool × SkipReason)) → AllByRecursion (λ (line : Bool × SkipReason). IsOther line.1) lines
    → IfSome (first_match lines) IsOther
first_other [] all = tt
first_other ((true, name) ∷ lines) all = all.0
first_other ((false, name) ∷ lines) all = first_other lines all.1

-- of two reasons the first, or else the second
first_of_two : (first second : Option SkipReason) → IfSome first IsOther → (first ≡ None → IfSome second IsOther)
    → IfSome (option_or first second) IsOther
first_of_two (Some name) second one other = one
first_of_two None second one other = other refl

-- a key slot with this verdict is not skipped, or for another reason
abbrev SkipsOther : Verdict → Type 0
SkipsOther (Skipped reason) = IsOther reason
SkipsOther _ = Unit {0}

verdict_other : (reason : Option SkipReason) (made : Option Slot) → IfSome reason IsOther
    → SkipsOther (verdict_by reason made)
verdict_other (Some name) made other = other
verdict_other None (Some slot) other = tt
verdict_other None None other = refl

each_other : {T : Type 0} (verdict : T → Verdict) (slot : Option T) → ((its : T) → SkipsOther (verdict its))
    → IfSome (option_map verdict slot) SkipsOther
each_other verdict None each = tt
each_other verdict (Some its) each = each its

-- a key slot of LUKS1
other1 : (header : Header1) (limit : Option ℕ) (slot : StoredSlot) → SkipsOther (verdict1_of header limit slot)
unfolding verdict1_of slot_reasons1
other1 header limit slot = by slot.state
  where
    by : (state : SlotState) → SkipsOther (verdict_in state
        (verdict_by (first_match (slot_reasons1 header limit slot)) (slot1_of header slot)))
    by Enabled = verdict_other (first_match (slot_reasons1 header limit slot)) (slot1_of header slot)
        (first_other (slot_reasons1 header limit slot) (refl, (refl, (refl, (refl, tt)))))
    by StateDisabled = tt
    by (Damaged _) = refl

module _ (header : Header) (limits : Limits) (none : is_none limits.argon2 ≡ true) where
  -- of the derivation: if Argon2 may be used, there are limits for it
  other_derivation : (how : Derivation) → (has_known_hash how ≡ true → is_allowed limits how ≡ true)
      → IfSome (derivation_refusal limits how) IsOther
  unfolding derivation_refusal
  other_derivation (Pbkdf2 hash iterations) allows = of_test (iterations_out_of_range limits.max_iterations iterations)
    where
      of_test : (out : Bool) → IfSome (if out then Some Iterations else None) IsOther
      of_test true = refl
      of_test false = tt
  other_derivation (Argon2 parameters) allows = absurd (no_limits limits.argon2 none (allows refl))
    where
      no_limits : (argon2 : Option Argon2Limits) → is_none argon2 ≡ true → is_some argon2 ≡ true → ⊥
      no_limits None none some = absurd cc
      no_limits (Some its) none some = absurd cc

  -- a key slot of LUKS2
  other2 : (tree : Data) (bounds : Bounds) (number : ℕ) (slot : Data)
      → SkipsOther (verdict2_of tree bounds limits number slot)
  unfolding verdict2_of reason2_of form_reasons material_reasons place_reasons slot_parts2_of
  other2 tree bounds number slot =
      let parts = slot_parts2_of slot in
      verdict_other (reason2_of tree bounds limits number slot) (slot_from parts (digest2_for tree number))
      (first_of_two (first_match (form_reasons limits slot)) _
      (first_other (form_reasons limits slot) (refl, (refl, (refl, (refl, (refl, (refl, tt))))))) (λ form.
      first_of_two (first_match (material_reasons (payload_mode2_of tree bounds) parts)) _
      (first_other (material_reasons (payload_mode2_of tree bounds) parts) (refl, (refl, (refl, (refl, tt)))))
      (λ material.
      first_of_two (derivation_refusal limits parts.derivation) _
      (other_derivation (kdf2_of slot) (allowed limits slot form)) (λ derivation.
      first_other (place_reasons tree bounds limits.max_iterations number parts) (refl, (refl, tt))))))

  -- ---- the order of the key slots of a header, and opening

  other_within : (number : ℕ) → IfSome (verdict_within header limits number) SkipsOther
  unfolding verdict_within verdict1_at verdict2_at
  other_within number = by header
    where
      by : (header : Header) → IfSome (verdict_within header limits number) SkipsOther
      by (V1 header) = each_other (verdict1_of header limits.max_iterations) (slice_get header.slots number)
          (other1 header limits.max_iterations)
      by (V2 header tree) = each_other (verdict2_of tree (bounds2_of header) limits number)
          (object_numbered (codes "keyslots") tree number) (other2 tree (bounds2_of header) number)

  skipped_other : NoneOfArgon2 (ascending (skipped_at header limits) max_slots)
  skipped_other = All-ascending (λ (skip : ℕ × SkipReason). IsOther skip.1) (skipped_at header limits) max_slots
      (λ number skip is. by number (verdict_within header limits number) (other_within number) skip is)
    where
      by : (number : ℕ) (verdict : Option Verdict) → IfSome verdict SkipsOther → (skip : ℕ × SkipReason)
          → skipped_with_reason number verdict ≡ Some skip → IsOther skip.1
      by number (Some (Skipped reason)) other skip is =
          subst (λ (s : ℕ × SkipReason). IsOther s.1) (same_Some (number, reason) skip is) other
      by number _ other skip is = absurd cc

  -- the order skips no key slot for a reason of Argon2, and neither does the fault if there is none
  pub order_without_argon2 : (named : Option ℕ)
      → IfOk (order_within header named limits) (λ order. NoneOfArgon2 order.skipped)
      × IfErr (order_within header named limits) OpensWithoutArgon2
  unfolding order_within
  order_without_argon2 None = by _ (ascending (skipped_at header limits) max_slots) skipped_other
    where
      by : (entries : List Entry) (skipped : List (ℕ × SkipReason)) → NoneOfArgon2 skipped
          → IfOk (unless_none entries skipped) (λ order. NoneOfArgon2 order.skipped)
          × IfErr (unless_none entries skipped) OpensWithoutArgon2
      by [] skipped other = (tt, other)
      by (entry ∷ entries) skipped other = (other, tt)
  order_without_argon2 (Some number) = by (verdict_within header limits number) (other_within number)
    where
      by : (verdict : Option Verdict) → IfSome verdict SkipsOther
          → IfOk (order_of_named number verdict) (λ order. NoneOfArgon2 order.skipped)
          × IfErr (order_of_named number verdict) OpensWithoutArgon2
      by (Some (Skipped reason)) other = (tt, other)
      by (Some (Usable slot)) other = (tt, tt)
      by (Some Disabled) other = (tt, tt)
      by None other = (tt, tt)

opening_without_argon2 : (order : OrderModel) (image pass : List ℕ) → NoneOfArgon2 order.skipped
    → IfErr (opening_of order image pass) OpensWithoutArgon2
unfolding opening_of
opening_without_argon2 order image pass other = by (first_opening order.entries image pass)
  where
    by : (first : Option Opened) → IfErr (ok_or first (NoKey order.skipped)) OpensWithoutArgon2
    by (Some opened) = tt
    by None = other

-- ---- what the parts of opening report

-- there is no order of the key slots, or memory for it ran out
pub unordered_without_argon2 : (header : Header) (slots : AllowedSlots) → is_none slots.limits.argon2 ≡ true
    → (fault : OpenFault) → (fault ≡ Memory) ⊎ (order_within header slots.named slots.limits ≡ Err fault)
    → OpensWithoutArgon2 fault
unordered_without_argon2 header slots none fault (inl memory) = rw memory tt
unordered_without_argon2 header slots none fault (inr is) =
    rw is at (order_without_argon2 header slots.limits none slots.named).1

-- the key slots were tried, and memory for Argon2 cannot be refused; or not all key material was loaded
pub tried_without_argon2 : (slots : AllowedSlots) (volume : FoundVolume) → MatchesHeader slots volume
    → is_none slots.limits.argon2 ≡ true → (area pass : List ℕ) (fault : VolumeFault) (Refused : ℕ → ℕ → Type 0)
    → ((slot memory : ℕ) → Refused slot memory → ⊥) → IfRefused {T = UnlockedVolume} (Err fault) Refused
    → TriesSlots (described volume) area pass (Err fault) → FaultWithoutArgon2 fault
tried_without_argon2 slots volume is none area pass (Slots fault) Refused never refused tries =
    let order = rw is.order at (order_without_argon2 volume.header slots.limits none slots.named).0 in
    rw tries.1 at (opening_without_argon2 volume.order area pass order)
tried_without_argon2 slots volume is none area pass (Argon2Memory slot memory) Refused never refused tries =
    never slot memory refused
tried_without_argon2 slots volume is none area pass _ Refused never refused tries = tt
