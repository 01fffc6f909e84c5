-- Values made from parts that were read and are in range, and the verdicts on key slots that they give.
use Rattle.std.proofs.lemmas.Grind.{common_steps}
use Rattle.std.proofs.Common.{arith}
use Rattle.std.proofs.Common.{◌≡◌, ℕ, Bool, true, false, Option, Some, None, Ok, ap, refl, length}
use Rattle.std.specs.Prelude.{is_none, option_map}
use Rattle.std.proofs.Math.Bool.{Bool-set}
use Rattle.std.proofs.lemmas.Option.{none-some, same_Some}
use Rattle.luks_cipher.specs.declared.mode.Mode.{Mode}
use Rattle.luks_format.specs.Rule.{evidence_if, is_digest, iterations_out_of_range}
use Rattle.luks_format.specs.SectorSize.{has_whole_sectors}
use Rattle.luks_format.specs.Segment.{refused_or, segment_from}
use Rattle.luks_format.specs.Derivation.{is_in_range}
use Rattle.luks_format.specs.Slot.{digest_from, has_no_usable_digest, material_end}
use Rattle.luks_format.specs.Slot.{slot_from, verdict_by, verdict_kind_of}
use Rattle.luks_format.specs.declared.digest.DigestParts.{DigestParts}
use Rattle.luks_format.specs.declared.digest.KeyDigest.{KeyDigest}
use Rattle.luks_format.specs.declared.refusal.SegmentFault.{SegmentFault}
use Rattle.luks_format.specs.declared.refusal.SkipReason.{SkipReason}
use Rattle.luks_format.specs.declared.sector_size.SectorSize.{SectorSize}
use Rattle.luks_format.specs.declared.segment.Segment.{Segment}
use Rattle.luks_format.specs.declared.slot.Slot.{Slot}
use Rattle.luks_format.specs.declared.slot.SlotParts.{SlotParts}
use Rattle.luks_format.specs.declared.slot.Verdict.{Verdict}
use Rattle.luks_format.specs.declared.slot.Verdict.TheVariants.{Usable}
use Rattle.luks_format.specs.declared.slot.VerdictKind.TheVariants.{Usable as KindUsable}

-- if a test holds, there is evidence of it, and any evidence of it is the same
pub evidence_if-yes : (test : Bool) (is : test ≡ true) → evidence_if test ≡ Some is
evidence_if-yes true is = let all : IsProp (true ≡ true) = hlevel (Bool-set) in ap Some (all refl is)
evidence_if-yes false is = absurd cc

pub evidence_if-no : (test : Bool) → test ≡ false → evidence_if test ≡ None
evidence_if-no true is = absurd cc
evidence_if-no false is = refl

-- the parts of a key slot are in range
abbrev pub are_in_range : SlotParts → Bool
are_in_range parts = is_in_range parts.derivation parts.stripes (material_end parts)

-- the key slot with these parts, which are in range, and this digest
unfoldable pub slot_of : (parts : SlotParts) (digest : KeyDigest) → are_in_range parts ≡ true → Slot
slot_of parts digest is = record { parts = parts; digest = digest; in_range = is }

pub slot_from-yes : (parts : SlotParts) (digest : KeyDigest) (is : are_in_range parts ≡ true)
    → slot_from parts (Some digest) ≡ Some (slot_of parts digest is)
unfolding slot_from slot_of
slot_from-yes parts digest is = ap (option_map (slot_of parts digest)) (evidence_if-yes (are_in_range parts) is)

pub slot_from-no : (parts : SlotParts) (digest : Option KeyDigest) → are_in_range parts ≡ false
    → slot_from parts digest ≡ None
unfolding slot_from slot_of
slot_from-no parts digest is = grind (arith, common_steps, slot_of, evidence_if-no)

-- the parts of a digest are in range
abbrev pub is_usable : DigestParts → Bool
is_usable parts = is_digest parts.iterations (length parts.value)

-- the digest with these parts, which are in range
unfoldable pub digest_of : (parts : DigestParts) → is_usable parts ≡ true → KeyDigest
digest_of parts is = record { parts = parts; usable = is }

pub digest_from-yes : (parts : DigestParts) (is : is_usable parts ≡ true)
    → digest_from parts ≡ Some (digest_of parts is)
unfolding digest_from digest_of
digest_from-yes parts is = ap (option_map (digest_of parts)) (evidence_if-yes (is_usable parts) is)

pub digest_from-no : (parts : DigestParts) → is_usable parts ≡ false → digest_from parts ≡ None
unfolding digest_from digest_of
digest_from-no parts is = ap (option_map (digest_of parts)) (evidence_if-no (is_usable parts) is)

-- the segment with these parts, whose length is whole sectors or not fixed
unfoldable pub segment_by : (offset : ℕ) (size : Option ℕ) (iv_tweak : ℕ) (sector_size : SectorSize) (mode : Mode)
    → has_whole_sectors size sector_size ≡ true → Segment
segment_by offset size iv_tweak sector_size mode is = record {
  offset = offset;
  size = size;
  iv_tweak = iv_tweak;
  sector_size = sector_size;
  mode = mode;
  whole_sectors = is;
}

pub segment_from-yes : (offset : ℕ) (size : Option ℕ) (iv_tweak : ℕ) (sector_size : SectorSize) (mode : Mode)
    (is : has_whole_sectors size sector_size ≡ true)
    → segment_from (Some offset) (Some size) (Some iv_tweak) (Some sector_size) (Some mode)
    ≡ Some (segment_by offset size iv_tweak sector_size mode is)
unfolding segment_by
segment_from-yes offset size iv_tweak sector_size mode is =
    ap (option_map (segment_by offset size iv_tweak sector_size mode))
    (evidence_if-yes (has_whole_sectors size sector_size) is)

-- what was mapped, if a function was mapped over an option and there is a result
pub mapped : {A B : Type 0} (f : A → B) (o : Option A) (y : B) → option_map f o ≡ Some y
    → (x : A) × (o ≡ Some x) × (f x ≡ y)
mapped f o y is = grind (arith, common_steps, same_Some)

-- the segment that these parts make starts at the stated offset and has the stated mode
pub parts_made : (offset : Option ℕ) (size : Option (Option ℕ)) (iv_tweak : Option ℕ) (sector_size : Option SectorSize)
    (mode : Option Mode) (segment : Segment) → segment_from offset size iv_tweak sector_size mode ≡ Some segment
    → (offset ≡ Some segment.offset) × (mode ≡ Some segment.mode)
unfolding segment_by
parts_made (Some offset) (Some size) (Some iv_tweak) (Some sector_size) (Some mode) segment is =
    let made = mapped (segment_by offset size iv_tweak sector_size mode)
    (evidence_if (has_whole_sectors size sector_size)) segment is in
    (ap (λ (s : Segment). Some s.offset) made.2, ap (λ (s : Segment). Some s.mode) made.2)
parts_made _ _ _ _ _ segment is = absurd cc

-- a segment without a fault is the one that was made
pub refused_or-none : (found : Option SegmentFault) (there : Option Segment) (segment : Segment) → found ≡ None
    → there ≡ Some segment → refused_or found there ≡ Ok segment
refused_or-none found there segment none is = grind (arith, common_steps, none-some, same_Some)

-- a segment that is not refused has no fault and was made
pub refused_or-ok : (found : Option SegmentFault) (there : Option Segment) (segment : Segment)
    → refused_or found there ≡ Ok segment → (found ≡ None) × (there ≡ Some segment)
refused_or-ok found there segment is = grind (arith, common_steps)

-- if the parts of a digest are in range, it is unusable only if its iterations are out of range under the limit
pub no_usable_digest-yes : (limit : Option ℕ) (parts : DigestParts) → is_usable parts ≡ true
    → has_no_usable_digest limit (digest_from parts) ≡ iterations_out_of_range limit parts.iterations
unfolding has_no_usable_digest digest_of
no_usable_digest-yes limit parts is = ap (has_no_usable_digest limit) (digest_from-yes parts is)

pub no_usable_digest-no : (limit : Option ℕ) (parts : DigestParts) → is_usable parts ≡ false
    → has_no_usable_digest limit (digest_from parts) ≡ true
unfolding has_no_usable_digest
no_usable_digest-no limit parts is = ap (has_no_usable_digest limit) (digest_from-no parts is)

-- if the kind of a verdict is that the slot can be tried, the verdict has what is needed to open it
pub usable_from_kind : (verdict : Option Verdict) (priority : ℕ)
    → option_map verdict_kind_of verdict ≡ Some (KindUsable priority)
    → (slot : Slot) × (verdict ≡ Some (Usable slot)) × (slot.parts.priority ≡ priority)
usable_from_kind (Some (Usable slot)) priority is = (slot, refl, cc)
usable_from_kind _ priority is = absurd cc

-- if the verdict is that a slot is usable, there is no reason to skip it, and the verdict has what is needed to open it
pub of_usable : (reason : Option SkipReason) (made : Option Slot) (usable : Slot)
    → verdict_by reason made ≡ Usable usable → (reason ≡ None) × (made ≡ Some usable)
of_usable reason made usable is = grind (arith, common_steps)

-- ---- consequences of a reason to skip a slot that does not hold

pub some_from_not_none : {T : Type 0} (o : Option T) → is_none o ≡ false → (t : T) × (o ≡ Some t)
some_from_not_none o is = grind (arith, common_steps)

pub digest_there : (limit : Option ℕ) (digest : Option KeyDigest) → has_no_usable_digest limit digest ≡ false
    → (there : KeyDigest) × (digest ≡ Some there)
unfolding has_no_usable_digest
digest_there limit None is = absurd cc
digest_there limit (Some digest) is = (digest, refl)
