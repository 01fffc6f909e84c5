-- If no key slot of a header derives its key by Argon2, limits for Argon2 change nothing.
use Rattle.std.proofs.Common.{◌≡◌, ◌∙◌, ℕ, zero, suc, ap, refl, arith, Bool, true, false, List, [], ◌∷◌, Option, Some}
use Rattle.std.proofs.Common.{None}
use Rattle.std.proofs.Common.{Result, Ok, Err}
use Rattle.std.specs.Prelude.{IfOk, IfSome, ◌&&◌, codes, if◌then◌else◌, is_none, option_map}
use Rattle.std.specs.Option.{option_or}
use Rattle.serde_json.specs.Data.{Data}
use Rattle.luks_argon2.specs.declared.variant.Variant.{Variant}
use Rattle.luks_argon2.specs.declared.variant.Variant.TheVariants.{Argon2i, Argon2id}
use Rattle.luks_format.specs.Derivation.{derivation_refusal, without_argon2}
use Rattle.luks_format.specs.Rule.{max_slots}
use Rattle.luks_format.specs.Table.{ascending, first_match}
use Rattle.luks_format.specs.declared.derivation.Argon2Limits.{Argon2Limits}
use Rattle.luks_format.specs.declared.derivation.Limits.{Limits}
use Rattle.luks_format.specs.declared.fault.HeaderFault.{HeaderFault}
use Rattle.luks_format.specs.declared.refusal.SegmentFault.{SegmentFault}
use Rattle.luks_format.specs.declared.refusal.SkipReason.{SkipReason}
use Rattle.luks_format.specs.declared.segment.Segment.{Segment}
use Rattle.luks_format.specs.Slot.{slot_from, verdict_by}
use Rattle.luks_format.specs.declared.slot.Slot.{Slot}
use Rattle.luks_format.specs.declared.slot.Verdict.{Verdict}
use Rattle.luks_format.specs.declared.slot.Verdict.TheVariants.{Usable}
use Rattle.luks_format.proofs.TableLemmas.{none_holds}
use Rattle.luks2_json.specs.Numbered.{object_numbered}
use Rattle.luks2_metadata.specs.Digest2.{digest2_for}
use Rattle.luks2_metadata.specs.Kdf2.{derivation_by, is_kdf_type, kdf2_of, variant_of}
use Rattle.luks2_metadata.specs.Slot2.{form_reasons, reason2_of, slot_parts2_of, verdict2_at, verdict2_of}
use Rattle.luks2_metadata.specs.declared.bounds.Bounds.{Bounds}
use Rattle.luks_header.specs.Header.{bounds2_of}
use Rattle.luks_header.specs.HeaderSegment.{segment_of}
use Rattle.luks_header.specs.SlotVerdicts.{verdict_within}
use Rattle.luks_header.specs.declared.header.Header.{Header}
use Rattle.luks_header.specs.declared.header.Header.TheVariants.{V1, V2}
use Rattle.luks_open.specs.Allowed.{NeedsNoArgon2, without}
use Rattle.luks_open.specs.Location.{HeaderReader}
use Rattle.luks_open.specs.Opening.{entry_with_priority, order_of, order_of_named, order_within, skipped_at}
use Rattle.luks_open.specs.Opening.{skipped_with_reason, tried_with}
use Rattle.luks_open.specs.Volume.{Volume, VolumeOpening, opening_after, volume_by, volume_in_header, volume_in_segment}
use Rattle.luks_open.specs.Volume.{volume_opening_by}
use Rattle.luks_open.specs.declared.allowed.AllowedSlots.{AllowedSlots}
use Rattle.luks_open.specs.declared.fault.VolumeFault.{VolumeFault}

-- ---- the reasons to skip a slot

-- the variant of Argon2, if it is the first or the second
abbrev variant_if : Bool → Bool → Option Variant
variant_if first second = if first then Some Argon2i else if second then Some Argon2id else None

no_variant_of : (first second : Bool) → variant_if first second ≡ None → (first ≡ false) × (second ≡ false)
no_variant_of false false none = (refl, refl)
no_variant_of true second none = absurd cc
no_variant_of false true none = absurd cc

and_false : (b : Bool) → (b && false) ≡ false
and_false true = refl
and_false false = refl

module _ (limits : Limits) (slot : Data) (without_variant : variant_of slot ≡ None) where
  same_form : first_match (form_reasons limits slot)
      ≡ first_match (form_reasons (without_argon2 limits.max_iterations) slot)
  unfolding form_reasons variant_of
  same_form =
      let none = no_variant_of (is_kdf_type (codes "argon2i") slot) (is_kdf_type (codes "argon2id") slot)
      without_variant in
      rw (none.0, none.1, and_false (is_none limits.argon2)) refl

  same_derivation : derivation_refusal limits (kdf2_of slot)
      ≡ derivation_refusal (without_argon2 limits.max_iterations) (kdf2_of slot)
  unfolding derivation_refusal kdf2_of
  same_derivation = by (variant_of slot) without_variant
    where
      by : (variant : Option Variant) → variant ≡ None
          → derivation_refusal limits (derivation_by variant slot)
          ≡ derivation_refusal (without_argon2 limits.max_iterations) (derivation_by variant slot)
      by None is = refl
      by (Some _) is = absurd cc

  same_reason : (tree : Data) (bounds : Bounds) (number : ℕ) → reason2_of tree bounds limits number slot
      ≡ reason2_of tree bounds (without_argon2 limits.max_iterations) number slot
  unfolding reason2_of slot_parts2_of
  same_reason tree bounds number = rw (same_form, same_derivation) refl

  same_verdict2 : (tree : Data) (bounds : Bounds) (number : ℕ) → verdict2_of tree bounds limits number slot
      ≡ verdict2_of tree bounds (without_argon2 limits.max_iterations) number slot
  unfolding verdict2_of
  same_verdict2 tree bounds number = rw (same_reason tree bounds number) refl

-- ---- key slots that can be tried without Argon2

module _ (tree : Data) (bounds : Bounds) (limit : Option ℕ) (number : ℕ) (slot : Data) (usable : Slot) where
  no_variant : first_match (form_reasons (without_argon2 limit) slot) ≡ None → variant_of slot ≡ None
  unfolding form_reasons variant_of
  no_variant none =
      let all = none_holds (form_reasons (without_argon2 limit) slot) none in
      by (is_kdf_type (codes "argon2i") slot) (is_kdf_type (codes "argon2id") slot) all.1.1.0 all.1.1.1.0
    where
      by : (first second : Bool) → (true && first) ≡ false → (true && second) ≡ false → variant_if first second ≡ None
      by false false closed closed' = refl
      by true second closed closed' = absurd cc
      by false true closed closed' = absurd cc

  no_reason : verdict2_of tree bounds (without_argon2 limit) number slot ≡ Usable usable
      → reason2_of tree bounds (without_argon2 limit) number slot ≡ None
  unfolding verdict2_of
  no_reason = by (reason2_of tree bounds (without_argon2 limit) number slot)
      (slot_from (slot_parts2_of slot) (digest2_for tree number))
    where
      by : (reason : Option SkipReason) (made : Option Slot) → verdict_by reason made ≡ Usable usable → reason ≡ None
      by None made is = refl
      by (Some reason) made is = absurd cc

  is_pbkdf2_alone : verdict2_of tree bounds (without_argon2 limit) number slot ≡ Usable usable → variant_of slot ≡ None
  unfolding reason2_of
  is_pbkdf2_alone is = no_variant (by (first_match (form_reasons (without_argon2 limit) slot)) _ (no_reason is))
    where
      by : (first second : Option SkipReason) → option_or first second ≡ None → first ≡ None
      by None second is = refl
      by (Some reason) second is = absurd cc

-- a key slot that can be tried without Argon2 can be tried under limits for it, too
pub usable_with_argon2 : (header : Header) (limits : Limits) (number : ℕ) (usable : Slot)
    → verdict_within header (without_argon2 limits.max_iterations) number ≡ Some (Usable usable)
    → verdict_within header limits number ≡ Some (Usable usable)
unfolding verdict_within verdict2_at
usable_with_argon2 (V1 header) limits number usable is = is
usable_with_argon2 (V2 header tree) limits number usable is =
    by (object_numbered (codes "keyslots") tree number) is
  where
    bounds : Bounds
    bounds = bounds2_of header

    of_verdict : (verdict : Verdict) → Some verdict ≡ Some (Usable usable) → verdict ≡ Usable usable
    of_verdict verdict is = cc

    by : (slot : Option Data)
        → option_map (verdict2_of tree bounds (without_argon2 limits.max_iterations) number) slot ≡ Some (Usable usable)
        → option_map (verdict2_of tree bounds limits number) slot ≡ Some (Usable usable)
    by None is = absurd cc
    by (Some slot) is =
        let variant = is_pbkdf2_alone tree bounds limits.max_iterations number slot usable (of_verdict _ is) in
        ap Some (same_verdict2 limits slot variant tree bounds number) ∙ is

-- ---- the order of key slots

same_ascending : {T : Type 0} (f g : ℕ → Option T) (n : ℕ) → ((i : ℕ) → f i ≡ g i) → ascending f n ≡ ascending g n
unfolding ascending
same_ascending f g zero same = refl
same_ascending f g (suc n) same = rw (same_ascending f g n same, same n) refl

module _ (header : Header) (limits : Limits) (none : NeedsNoArgon2 header) where
  same_verdict : (number : ℕ) → verdict_within header limits number
      ≡ verdict_within header (without_argon2 limits.max_iterations) number
  unfolding verdict_within verdict2_at
  same_verdict = by header none
    where
      of_slot : (tree : Data) (bounds : Bounds) (number : ℕ) (slot : Option Data)
          → IfSome slot (λ s. variant_of s ≡ None)
          → option_map (verdict2_of tree bounds limits number) slot
          ≡ option_map (verdict2_of tree bounds (without_argon2 limits.max_iterations) number) slot
      of_slot tree bounds number None is = refl
      of_slot tree bounds number (Some slot) is = ap Some (same_verdict2 limits slot is tree bounds number)

      by : (h : Header) → NeedsNoArgon2 h → (number : ℕ) → verdict_within h limits number
          ≡ verdict_within h (without_argon2 limits.max_iterations) number
      by (V1 _) is number = refl
      by (V2 header tree) is number =
          of_slot tree (bounds2_of header) number (object_numbered (codes "keyslots") tree number) (is number)

  same_tried : (priority : ℕ) → ascending (tried_with header limits priority) max_slots
      ≡ ascending (tried_with header (without_argon2 limits.max_iterations) priority) max_slots
  same_tried priority = same_ascending (tried_with header limits priority)
      (tried_with header (without_argon2 limits.max_iterations) priority) max_slots
      (λ i. ap (entry_with_priority priority i) (same_verdict i))

  same_skipped : ascending (skipped_at header limits) max_slots
      ≡ ascending (skipped_at header (without_argon2 limits.max_iterations)) max_slots
  same_skipped = same_ascending (skipped_at header limits)
      (skipped_at header (without_argon2 limits.max_iterations)) max_slots
      (λ i. ap (skipped_with_reason i) (same_verdict i))

  pub same_order : (named : Option ℕ) → order_within header named limits ≡ order_of header named limits.max_iterations
  unfolding order_within
  same_order None = rw (same_tried 2, same_tried 1, same_skipped) refl
  same_order (Some named) = ap (order_of_named named) (same_verdict named)

-- ---- opening

module _ (slots : AllowedSlots) where
  same_in_segment : (header : Header) → NeedsNoArgon2 header → (segment : Result Segment SegmentFault)
      → volume_in_segment slots header segment ≡ volume_in_segment (without slots) header segment
  same_in_segment header none (Ok segment) = rw (same_order header slots.limits none slots.named) refl
  same_in_segment header none (Err fault) = refl

  same_in_header : (found : Result Header HeaderFault) → IfOk found NeedsNoArgon2
      → volume_in_header slots found ≡ volume_in_header (without slots) found
  same_in_header (Ok header) none = same_in_segment header none (segment_of header)
  same_in_header (Err fault) none = refl

  -- how opening a volume ends does not depend on limits for Argon2
  pub same_opening : (read : HeaderReader) (image pass : List ℕ) → IfOk (read image) NeedsNoArgon2
      → volume_opening_by read slots image pass ≡ volume_opening_by read (without slots) image pass
  unfolding volume_opening_by volume_by
  same_opening read image pass none = ap (opening_after image pass) (same_in_header (read image) none)
