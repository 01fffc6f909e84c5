-- Properties of a header whose segment is valid, and of a slot that there is no reason to skip.
use Rattle.std.proofs.lemmas.Grind.{common_steps}
use Rattle.std.proofs.Common.{◌≡◌, ◌≢◌, ◌∙◌, ℕ, ◌+◌, ◌*◌, ◌≤◌, ap, refl, sym, subst, true, false, Option}
use Rattle.std.proofs.Common.{Some, None, Ok, arith}
use Rattle.std.specs.Prelude.{is_none, option_and_then, slice_get}
use Rattle.std.specs.Option.{option_map_or}
use Rattle.std.proofs.lemmas.Bool.Decides.{nat_tests}
use Rattle.std.proofs.lemmas.Bool.{not-false}
use Rattle.std.proofs.lemmas.Option.{same_Some}
use Rattle.luks_format.specs.Area.{max_loaded_len}
use Rattle.luks_cipher.specs.Sector.{is_mode_key_length}
use Rattle.luks_cipher.specs.declared.mode.Mode.{Mode}
use Rattle.luks_kdf.specs.declared.hash.Hash.{Hash}
use Rattle.luks_format.specs.Derivation.{is_derivable, is_in_range}
use Rattle.luks_format.specs.Rule.{exceeds, iterations_out_of_range, area_out_of_range}
use Rattle.luks_format.specs.Rule.{stripes_out_of_range, key_material_len}
use Rattle.luks_format.specs.Segment.{segment_from}
use Rattle.luks_format.specs.Slot.{digest_from, material_end, verdict_kind_of, slot_from}
use Rattle.luks_format.specs.Table.{first_match}
use Rattle.luks_format.proofs.MadeLemmas.{are_in_range, digest_there, mapped, of_usable, parts_made}
use Rattle.luks_format.proofs.MadeLemmas.{refused_or-none, refused_or-ok, slot_from-yes, slot_of}
use Rattle.luks_format.proofs.MadeLemmas.{some_from_not_none}
use Rattle.luks_format.proofs.TableLemmas.{none_holds}
use Rattle.luks_format.specs.declared.derivation.Derivation.TheVariants.{Pbkdf2}
use Rattle.luks_format.specs.declared.digest.KeyDigest.{KeyDigest}
use Rattle.luks_format.specs.declared.sector_size.SectorSize.TheVariants.{B512}
use Rattle.luks_format.specs.declared.segment.Segment.{Segment}
use Rattle.luks_format.specs.declared.slot.Slot.{Slot}
use Rattle.luks_format.specs.declared.slot.Verdict.TheVariants.{Usable}
use Rattle.luks_format.specs.declared.slot.VerdictKind.TheVariants.{Usable as KindUsable}
use Rattle.luks_format.specs.Segment1.{segment1_of, segment_faults1}
use Rattle.luks_format.specs.Slot1.{digest_parts1_of, hash1_of, area1_out_of_range, mode1_of}
use Rattle.luks_format.specs.Slot1.{payload1_start, slot1_at, slot1_of, slot_parts1_of, slot_reasons1, verdict1_at}
use Rattle.luks_format.specs.Slot1.{verdict1_of, verdict_in}
use Rattle.luks_format.specs.Slot.{verdict_by}
use Rattle.luks_format.specs.declared.header.SlotState.{SlotState}
use Rattle.luks_format.specs.declared.header.SlotState.TheVariants.{Enabled, Disabled, Damaged}
use Rattle.luks_format.specs.declared.header.Header1.{Header1}
use Rattle.luks_format.specs.declared.header.StoredSlot.{StoredSlot}

-- a volume that can be read: its mode and hash function are known, and its key has a length that the mode allows
pub record IsReadable (header : Header1) : Type 0 where
  pub mode : (mode : Mode) × (mode1_of header ≡ Some mode)
  pub hash : (hash : Hash) × (hash1_of header ≡ Some hash)
  pub key : option_map_or (λ mode. is_mode_key_length mode header.key_bytes) (mode1_of header) false ≡ true

-- the segment of a header, by its fields
pub record IsSegment1 (header : Header1) (segment : Segment) : Type 0 where
  pub offset : segment.offset ≡ 512 * header.payload_offset
  pub mode : mode1_of header ≡ Some segment.mode

-- if the mode is known, a segment is made
made_in : (mode : Option Mode) (offset : ℕ) → is_none mode ≡ false
    → segment_from (Some offset) (Some None) (Some 0) (Some B512) mode ≢ None
made_in None offset known none = cc
made_in (Some mode) offset known none = cc

-- a segment without a fault is made from its parts, so it is never refused with `Member`
pub made1 : (header : Header1) → first_match (segment_faults1 header) ≡ None
    → segment_from (Some (512 * header.payload_offset)) (Some None) (Some 0) (Some B512) (mode1_of header) ≢ None
unfolding segment_faults1
made1 header no_fault =
    made_in (mode1_of header) (512 * header.payload_offset) (none_holds (segment_faults1 header) no_fault).0

-- a header whose segment is valid has that segment and can be read
pub IsReadable-ok : (header : Header1) (segment : Segment) → segment1_of header ≡ Ok segment
    → IsSegment1 header segment × IsReadable header
unfolding segment1_of segment_faults1
IsReadable-ok header segment is =
    let fault = first_match (segment_faults1 header) in
    let made = refused_or-ok fault
    (segment_from (Some (512 * header.payload_offset)) (Some None) (Some 0) (Some B512) (mode1_of header)) segment is in
    let parts = parts_made (Some (512 * header.payload_offset)) (Some None) (Some 0) (Some B512) (mode1_of header)
    segment made.1 in
    let all = none_holds (segment_faults1 header) made.0 in
    let readable : IsReadable header = grind (arith, common_steps, some_from_not_none, not-false) in
    (record { offset = sym (same_Some _ _ parts.0); mode = parts.1 }, readable)

-- a segment without a fault is the one that is made
pub segment1-none : (header : Header1) (segment : Segment) → first_match (segment_faults1 header) ≡ None
    → segment_from (Some (512 * header.payload_offset)) (Some None) (Some 0) (Some B512) (mode1_of header)
    ≡ Some segment → segment1_of header ≡ Ok segment
unfolding segment1_of
segment1-none header segment none made = refused_or-none _ _ segment none made

-- ---- slots

-- what is needed to open a slot is from this header, and its key material ends at or before the payload's start, if the
-- header is attached
pub record IsOf (header : Header1) (usable : Slot) : Type 0 where
  pub kdf : (iterations : ℕ) × (usable.parts.derivation ≡ Pbkdf2 (hash1_of header) iterations)
  pub af : usable.parts.af_hash ≡ hash1_of header
  pub volume_key : usable.parts.key_bytes ≡ header.key_bytes
  pub area_key : usable.parts.area_key_bytes ≡ header.key_bytes
  pub area_mode : usable.parts.area_mode ≡ mode1_of header
  pub before_payload : exceeds (payload1_start header) (material_end usable.parts) ≡ false

-- key material that is in range ends at or before the payload's start, if that is known, and can be loaded
area_in_range : (header : Header1) (slot : StoredSlot) → area1_out_of_range header slot ≡ false
    → (exceeds (payload1_start header) (512 * slot.offset + key_material_len header.key_bytes slot.stripes) ≡ false)
    × (512 * slot.offset + key_material_len header.key_bytes slot.stripes ≤ max_loaded_len)
unfolding area1_out_of_range area_out_of_range
area_in_range header slot is = (grind (arith, nat_tests), grind (arith, nat_tests))

module _ (header : Header1) (limit : Option ℕ) (slot : StoredSlot) where
  -- if these reasons to skip the slot do not hold, its numbers are in range
  range_of : stripes_out_of_range slot.stripes ≡ false → iterations_out_of_range limit slot.iterations ≡ false
      → area1_out_of_range header slot ≡ false → are_in_range (slot_parts1_of header slot) ≡ true
  unfolding is_in_range is_derivable iterations_out_of_range stripes_out_of_range slot_parts1_of
  range_of stripes iterations area =
      let bounds = area_in_range header slot area in
      grind (arith, nat_tests)

  -- if there is no reason to skip the slot, there is what is needed to open it, with the digest
  pub slot_there : first_match (slot_reasons1 header limit slot) ≡ None
      → (digest : KeyDigest) × (digest_from (digest_parts1_of header) ≡ Some digest)
      × (is : are_in_range (slot_parts1_of header slot) ≡ true)
      × (slot1_of header slot ≡ Some (slot_of (slot_parts1_of header slot) digest is))
  unfolding slot1_of slot_reasons1
  slot_there none =
      let all = none_holds (slot_reasons1 header limit slot) none in
      let there = digest_there limit (digest_from (digest_parts1_of header)) all.1.1.1.0 in
      let is = range_of all.0 all.1.0 all.1.1.0 in
      let made : slot_from (slot_parts1_of header slot) (digest_from (digest_parts1_of header))
      ≡ Some (slot_of (slot_parts1_of header slot) there.0 is) =
      ap (slot_from (slot_parts1_of header slot)) there.1 ∙ slot_from-yes (slot_parts1_of header slot) there.0 is in
      (there.0, there.1, is, made)

  -- the kind of verdict on a slot that is enabled and that there is no reason to skip: it can be tried
  pub usable_verdict : slot.state ≡ Enabled → first_match (slot_reasons1 header limit slot) ≡ None
      → verdict_kind_of (verdict1_of header limit slot) ≡ KindUsable 1
  unfolding verdict1_of slot_of slot_parts1_of
  usable_verdict enabled none =
      let there = slot_there none in
      ap (λ (state : SlotState). verdict_kind_of (verdict_in state
      (verdict_by (first_match (slot_reasons1 header limit slot)) (slot1_of header slot)))) enabled
      ∙ rw (none, there.3) refl

  -- if the verdict is that the slot can be tried, there is no reason to skip it, and this is what is needed to open it
  of_verdict : (usable : Slot) → verdict1_of header limit slot ≡ Usable usable
      → (first_match (slot_reasons1 header limit slot) ≡ None) × (slot1_of header slot ≡ Some usable)
  unfolding verdict1_of
  of_verdict usable = by slot.state
    where
      by : (state : SlotState)
          → verdict_in state (verdict_by (first_match (slot_reasons1 header limit slot)) (slot1_of header slot))
          ≡ Usable usable
          → (first_match (slot_reasons1 header limit slot) ≡ None) × (slot1_of header slot ≡ Some usable)
      by Enabled is = of_usable _ _ usable is
      by Disabled is = absurd cc
      by (Damaged _) is = absurd cc

  -- if the slot can be tried, what is needed to open it is from this header
  usable_is : (usable : Slot) → verdict1_of header limit slot ≡ Usable usable
      → IsOf header usable × (slot1_of header slot ≡ Some usable)
  unfolding slot_of slot_parts1_of slot_reasons1
  usable_is usable is =
      let verdict = of_verdict usable is in
      let all = none_holds (slot_reasons1 header limit slot) verdict.0 in
      let there = slot_there verdict.0 in
      let same : usable ≡ slot_of (slot_parts1_of header slot) there.0 there.2 =
      same_Some _ _ (sym verdict.1 ∙ there.3) in
      let known : IsOf header (slot_of (slot_parts1_of header slot) there.0 there.2) =
      grind (arith, common_steps, area_in_range) in
      (subst (IsOf header) (sym same) known, verdict.1)

-- if the slot of this number can be tried, this is what is needed to open it, and it is from this header
pub slot_usable_at : (header : Header1) (limit : Option ℕ) (number : ℕ) (usable : Slot)
    → verdict1_at header limit number ≡ Some (Usable usable)
    → IsOf header usable × (slot1_at header number ≡ Some usable)
unfolding verdict1_at slot1_at
slot_usable_at header limit number usable is =
    let slot = mapped (verdict1_of header limit) (slice_get header.slots number) (Usable usable) is in
    let known = usable_is header limit slot.0 usable slot.2 in
    (known.0, ap (option_and_then (slot1_of header)) slot.1 ∙ known.1)
