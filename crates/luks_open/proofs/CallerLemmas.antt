-- Properties of the key slots to be tried, in their order, and of their key material, for this crate and its callers.
use Rattle.std.proofs.Common.{◌≡◌, ◌∙◌, ℕ, ◌+◌, ◌==◌, ◌<◌, ◌≤◌, max, Bool, true, false, List, [], ◌∷◌, ◌++◌}
use Rattle.std.proofs.Common.{length, drop, get_or, Option, Some, None, Ok, IsOk, IsSome, refl, sym, ap, subst}
use Rattle.std.proofs.Common.{arith}
use Rattle.std.specs.Prelude.{if◌then◌else◌, is_none, is_some, option_and_then, option_map, slice_index_or}
use Rattle.std.specs.List.{AllByRecursion, All}
use Rattle.std.specs.Option.{option_or}
use Rattle.std.proofs.lemmas.Bool.{eq-eqb}
use Rattle.std.proofs.lemmas.List.{drop_more}
use Rattle.std.proofs.lemmas.List.Elements.{All-from_recursion, recursion_from_All}
use Rattle.std.proofs.lemmas.Option.{same_Some}
use Rattle.luks_kdf.specs.declared.hash.Hash.{Hash}
use Rattle.luks_format.specs.Area.{max_loaded_len}
use Rattle.luks_cipher.specs.Sector.{is_mode_key_length}
use Rattle.luks_cipher.specs.declared.mode.Mode.{Mode}
use Rattle.luks_cipher.proofs.ModeLemmas.{key_length_of_mode}
use Rattle.luks_format.specs.Derivation.{IsDerivable, is_allowed}
use Rattle.luks_format.specs.Rule.{max_slots}
use Rattle.luks_format.specs.Slot.{material_end, verdict_kind_of}
use Rattle.luks_format.specs.Table.{ascending}
use Rattle.luks_format.specs.declared.derivation.Argon2Limits.{Argon2Limits}
use Rattle.luks_format.specs.declared.derivation.Derivation.{Derivation}
use Rattle.luks_format.specs.declared.derivation.Derivation.TheVariants.{Pbkdf2, Argon2}
use Rattle.luks_format.specs.declared.derivation.Limits.{Limits}
use Rattle.luks_format.specs.declared.digest.KeyDigest.{KeyDigest}
use Rattle.luks_format.specs.declared.refusal.SkipReason.{SkipReason}
use Rattle.luks_format.specs.declared.segment.Segment.{Segment}
use Rattle.luks_format.specs.declared.slot.Slot.{Slot}
use Rattle.luks_format.specs.declared.slot.Verdict.{Verdict}
use Rattle.luks_format.specs.declared.slot.Verdict.TheVariants.{Usable}
use Rattle.luks_format.specs.declared.slot.VerdictKind.TheVariants.{Usable as KindUsable}
use Rattle.luks_format.proofs.MadeLemmas.{usable_from_kind}
use Rattle.luks_format.proofs.RangeLemmas.{slot_range}
use Rattle.luks_format.proofs.TableLemmas.{AllByRecursion-append, All-ascending}
use Rattle.luks_header.specs.Header.{is_detached}
use Rattle.luks_header.specs.HeaderSegment.{segment_of}
use Rattle.luks_header.specs.SlotVerdicts.{can_be_tried, verdict_within}
use Rattle.luks_header.specs.declared.header.Header.{Header}
use Rattle.luks_header.proofs.KnownLemmas.{IsKnown, before_payload, known_usable}
use Rattle.luks_open.specs.Candidate.{candidate_by, candidate_of, derived_by}
use Rattle.luks_open.specs.Candidate.{matches_digest, recovered}
use Rattle.luks_open.specs.Deriving.{IsPbkdf2}
use Rattle.luks_open.specs.Opening.{first_opening, slot_key, OrderModel}
use Rattle.luks_open.specs.Opening.{entry_with_priority, key_material_end, order_within, order_of_named}
use Rattle.luks_open.specs.Opening.{skipped_at, tried_with, unless_none}
use Rattle.luks_open.specs.Trial.{IsTriable}
use Rattle.luks_open.specs.declared.entry.Entry.{Entry}
use Rattle.luks_open.specs.declared.opening.Opened.{Opened}
use Rattle.luks_open.proofs.MaterialLemmas.{length-recovered}

-- an entry is one of this header: its key slot can be tried, and the entry has the verdict's own slot
pub record IsOf (header : Header) (limits : Limits) (entry : Entry) : Type 0 where
  pub usable : verdict_within header limits entry.number ≡ Some (Usable entry.slot)

-- a key slot that is tried with a priority is one of this header
tried_with-some : (header : Header) (limits : Limits) (priority number : ℕ) (entry : Entry)
    → tried_with header limits priority number ≡ Some entry → IsOf header limits entry
tried_with-some header limits priority number entry is = of_verdict (verdict_within header limits number) refl is
  where
    of_test : (test : Bool) (made : Entry) → IsOf header limits made → (if test then Some made else None) ≡ Some entry
        → IsOf header limits entry
    of_test true made of_header h =
        let same : made ≡ entry = same_Some _ _ h in
        subst (IsOf header limits) same of_header
    of_test false made of_header h = absurd cc

    of_verdict : (verdict : Option Verdict) → verdict_within header limits number ≡ verdict
        → entry_with_priority priority number verdict ≡ Some entry → IsOf header limits entry
    of_verdict (Some (Usable slot)) usable h =
        let made : Entry = record { number = number; slot = slot } in
        of_test (slot.parts.priority == priority) made (record { usable = usable }) h
    of_verdict _ usable h = absurd cc

-- if an order is made from entries, it has exactly these
order-unless_none : (entries : List Entry) (skipped : List (ℕ × SkipReason)) (order : OrderModel)
    → unless_none entries skipped ≡ Ok order → entries ≡ order.entries
order-unless_none [] skipped order is = absurd cc
order-unless_none (entry ∷ entries) skipped order is =
    let same : record { entries = entry ∷ entries; skipped = skipped }
    ≡ order = cc in ap (λ (t : OrderModel). t.entries) same

-- all entries of an order are ones of the header
pub All-order : (header : Header) (named : Option ℕ) (limits : Limits) (order : OrderModel)
    → order_within header named limits ≡ Ok order
    → AllByRecursion (IsOf header limits) order.entries
unfolding order_within
All-order header None limits order is =
    subst (AllByRecursion (IsOf header limits))
    (order-unless_none _ (ascending (skipped_at header limits) max_slots) order is)
    (AllByRecursion-append (IsOf header limits) _ _
    (All-ascending (IsOf header limits) (tried_with header limits 2) max_slots (tried_with-some header limits 2))
    (All-ascending (IsOf header limits) (tried_with header limits 1) max_slots (tried_with-some header limits 1)))
All-order header (Some number) limits order is = of_verdict (verdict_within header limits number) refl is
  where
    of_alone : (entry : Entry) → IsOf header limits entry → AllByRecursion (IsOf header limits) (entry ∷ [])
    of_alone entry of_header = (of_header, tt)

    of_verdict : (verdict : Option Verdict) → verdict_within header limits number ≡ verdict
        → order_of_named number verdict ≡ Ok order → AllByRecursion (IsOf header limits) order.entries
    of_verdict (Some (Usable slot)) usable h =
        let tried : Entry = record { number = number; slot = slot } in
        subst (AllByRecursion (IsOf header limits)) (order-unless_none (tried ∷ []) [] order h)
        (of_alone tried (record { usable = usable }))
    of_verdict _ usable h = absurd cc

-- ---- headers with a key slot to try

-- if there are entries of one priority or of the other, an order is made from them
pub some_tried : (first second : List Entry) (skipped : List (ℕ × SkipReason)) → 1 ≤ length first + length second
    → IsOk (unless_none (first ++ second) skipped)
some_tried [] [] skipped some = absurd (omega arith)
some_tried [] (entry ∷ entries) skipped some = refl
some_tried (entry ∷ entries) second skipped some = refl

-- a key slot whose verdict is that it can be tried with this priority is tried with it
pub usable_there : (header : Header) (limits : Limits) (priority number : ℕ)
    → option_map verdict_kind_of (verdict_within header limits number) ≡ Some (KindUsable priority)
    → IsSome (tried_with header limits priority number)
usable_there header limits priority number is =
    let usable = usable_from_kind (verdict_within header limits number) priority is in
    rw (usable.1, eq-eqb usable.0.parts.priority priority usable.2) refl

-- an entry that is there if a test holds is this entry
entry_if : (test : Bool) (entry : Entry) → IsSome (if test then Some entry else None)
    → (if test then Some entry else None) ≡ Some entry
entry_if true entry some = refl
entry_if false entry some = absurd cc

-- a key slot that is tried with a priority is the verdict's own, with its number
pub tried_usable : (header : Header) (limits : Limits) (priority number : ℕ) (slot : Slot)
    → verdict_within header limits number ≡ Some (Usable slot) → IsSome (tried_with header limits priority number)
    → tried_with header limits priority number ≡ Some record { number = number; slot = slot }
tried_usable header limits priority number slot is some =
    ap (entry_with_priority priority number) is
    ∙ entry_if (slot.parts.priority == priority) (record { number = number; slot = slot })
    (sym (ap (λ (verdict : Option Verdict). is_some (entry_with_priority priority number verdict)) is) ∙ some)

-- if the named key slot can be tried, there is an order
pub named_tried : (number : ℕ) (verdict : Option Verdict) → can_be_tried verdict ≡ true
    → IsOk (order_of_named number verdict)
named_tried number (Some (Usable slot)) is = refl
named_tried number _ is = absurd cc

-- ---- the end of the last key material

-- all key material ends at or before an offset if and only if that of each key slot does
pub key_material_end-le : (most : ℕ) (entries : List Entry)
    → AllByRecursion (λ (entry : Entry). material_end entry.slot.parts ≤ most) entries → key_material_end entries ≤ most
unfolding key_material_end
key_material_end-le most [] all = omega arith
key_material_end-le most (entry ∷ entries) all = omega (arith, key_material_end-le most entries all.1, all.0)

pub All-key_material_end : (most : ℕ) (entries : List Entry) → key_material_end entries ≤ most
    → AllByRecursion (λ (entry : Entry). material_end entry.slot.parts ≤ most) entries
unfolding key_material_end
All-key_material_end most [] all = tt
All-key_material_end most (entry ∷ entries) all = (omega arith, All-key_material_end most entries (omega arith))

-- key material that can be used ends within the bytes that can be loaded of an image
pub key_material_end-within : (entries : List Entry) → key_material_end entries ≤ max_loaded_len
unfolding key_material_end
key_material_end-within [] = omega arith
key_material_end-within (entry ∷ entries) =
    omega (arith, key_material_end-within entries, (slot_range entry.slot).loadable)

-- the entries from number i on: this entry, and then the remaining ones
pub from_entry : (entries : List Entry) (i : ℕ) (entry : Entry) → i < length entries → entry ≡ get_or entries i entry
    → drop i entries ≡ entry ∷ drop (i + 1) entries
from_entry entries i entry there is = drop_more entries i entry there
    ∙ ap (λ (e : Entry). e ∷ drop (i + 1) entries) (sym is)

-- the remaining key material ends where that of the next key slot or of those after it ends, whichever is later
pub key_material_end-drop : (entries : List Entry) (i : ℕ) (entry : Entry) → i < length entries
    → entry ≡ get_or entries i entry
    → key_material_end (drop i entries) ≡ max (material_end entry.slot.parts) (key_material_end (drop (i + 1) entries))
unfolding key_material_end
key_material_end-drop entries i entry there is = ap key_material_end (from_entry entries i entry there is)

-- ---- what holds for each key slot of an order

-- without Argon2, a key that may be derived is derived by PBKDF2
is_pbkdf2 : (limits : Limits) (derivation : Derivation) → is_none limits.argon2 ≡ true
    → is_allowed limits derivation ≡ true → IsDerivable derivation → IsPbkdf2 derivation
is_pbkdf2 limits (Pbkdf2 (Some hash) iterations) none is range = (range.some, omega (arith, range.few))
is_pbkdf2 limits (Pbkdf2 None iterations) none is range = absurd cc
is_pbkdf2 limits (Argon2 parameters) none is range = absurd (of_limits limits.argon2 none is)
  where
    of_limits : (argon2 : Option Argon2Limits) → is_none argon2 ≡ true → is_some argon2 ≡ true → ⊥
    of_limits None none some = absurd cc
    of_limits (Some limits) none some = absurd cc

module _ (header : Header) (named : Option ℕ) (limits : Limits) (order : OrderModel)
    (is_order : order_within header named limits ≡ Ok order) where
  pub each_of_header : All (IsOf header limits) order.entries
  each_of_header =
      All-from_recursion (IsOf header limits) order.entries (All-order header named limits order is_order)

  module _ (segment : Segment) (is_segment : segment_of header ≡ Ok segment) where
    pub each_known : All (λ (entry : Entry). IsKnown segment limits entry.slot) order.entries
    each_known = λ k d below.
        let entry = slice_index_or order.entries k d in
        let is = each_of_header k d below in
        known_usable header segment limits entry.number entry.slot is_segment is.usable

    -- the key slots to be tried are triable if their key material is loaded
    pub All-IsTriable : (loaded : ℕ) → key_material_end order.entries ≤ loaded
        → All (λ (entry : Entry). IsTriable loaded entry.slot) order.entries
    All-IsTriable loaded there = λ k d below.
        let entry = slice_index_or order.entries k d in
        let known : IsKnown segment limits entry.slot = each_known k d below in
        let ends = All-from_recursion (λ (entry : Entry). material_end entry.slot.parts ≤ loaded) order.entries
        (All-key_material_end loaded order.entries there) k d below in
        record {
          af = known.af;
          volume_key = key_length_of_mode segment.mode entry.slot.parts.key_bytes known.volume_key;
          area = known.area;
          there = ends;
        }

    -- without Argon2, the keys of all key slots to be tried are derived by PBKDF2
    pub All-IsPbkdf2 : is_none limits.argon2 ≡ true
        → All (λ (entry : Entry). IsPbkdf2 entry.slot.parts.derivation) order.entries
    All-IsPbkdf2 none = λ k d below.
        let entry = slice_index_or order.entries k d in
        let known : IsKnown segment limits entry.slot = each_known k d below in
        is_pbkdf2 limits entry.slot.parts.derivation none known.kdf (slot_range entry.slot).derivation

    -- the volume keys of the key slots to be tried have lengths that the segment's mode allows
    pub All-volume_key : All (λ (entry : Entry). is_mode_key_length segment.mode entry.slot.parts.key_bytes ≡ true)
        order.entries
    All-volume_key = λ k d below.
        let known : IsKnown segment limits
        (slice_index_or order.entries k d).slot = each_known k d below in known.volume_key

-- ---- for callers

-- with an attached header, the key material of all key slots to be tried ends at or before the payload's start
pub key_areas_before_payload : (header : Header) (segment : Segment) (named : Option ℕ) (limits : Limits)
    (order : OrderModel)
    → is_detached header ≡ false → segment_of header ≡ Ok segment
    → order_within header named limits ≡ Ok order → key_material_end order.entries ≤ segment.offset
key_areas_before_payload header segment named limits order attached is_segment is_order =
    key_material_end-le segment.offset order.entries
    (recursion_from_All (λ (entry : Entry). material_end entry.slot.parts ≤ segment.offset) order.entries (λ k d below.
    let entry = slice_index_or order.entries k d in
    let is = each_of_header header named limits order is_order k d below in
    before_payload header segment limits entry.number entry.slot attached is_segment is.usable))

-- the candidate, if it matches the digest
abbrev pub if_matches_digest : KeyDigest → Option (List ℕ) → Option (List ℕ)
if_matches_digest digest = option_and_then (λ key. if matches_digest digest key then Some key else None)

-- this key slot if it opens, or else the further one that opens
abbrev pub opened_or : ℕ → Option (List ℕ) → Option Opened → Option Opened
opened_or number key = option_or (option_map (λ k. record { slot = number; key = k }) key)

-- the candidate of a key slot is as long as the slot says
candidate_length : (slot : Slot) (image pass key : List ℕ) → IsTriable (length image) slot
    → candidate_of slot image pass ≡ Some key → length key ≡ slot.parts.key_bytes
unfolding candidate_of
candidate_length slot image pass key triable is =
    let parts = slot.parts in
    of_names (derived_by parts.derivation pass parts.salt parts.area_key_bytes) parts.af_hash parts.area_mode is
  where
    of_names : (area_key : Option (List ℕ)) (af : Option Hash) (mode : Option Mode)
        → candidate_by area_key af mode slot.parts image ≡ Some key → length key ≡ slot.parts.key_bytes
    of_names (Some area_key) (Some af) (Some mode) h =
        let parts = slot.parts in
        let same : recovered af (mode, area_key) image parts.area_offset parts.key_bytes parts.stripes ≡ key =
        same_Some _ _ h in
        ap length (sym same)
        ∙ length-recovered af (mode, area_key) image parts.area_offset parts.key_bytes parts.stripes triable.volume_key
        (slot_range slot).some_stripes triable.there
    of_names _ _ _ h = absurd cc

-- so is the volume key that it gives
slot_key_length : (entry : Entry) (image pass key : List ℕ) → IsTriable (length image) entry.slot
    → slot_key entry image pass ≡ Some key → length key ≡ entry.slot.parts.key_bytes
unfolding slot_key
slot_key_length entry image pass key triable is = of_candidate (candidate_of entry.slot image pass) refl is
  where
    of_test : (test : Bool) (made : List ℕ) → candidate_of entry.slot image pass ≡ Some made
        → (if test then Some made else None) ≡ Some key → length key ≡ entry.slot.parts.key_bytes
    of_test true made is_made h = candidate_length entry.slot image pass key triable (is_made ∙ h)
    of_test false made is_made h = absurd cc

    of_candidate : (made : Option (List ℕ)) → candidate_of entry.slot image pass ≡ made
        → if_matches_digest entry.slot.digest made ≡ Some key → length key ≡ entry.slot.parts.key_bytes
    of_candidate (Some made) is_made h = of_test (matches_digest entry.slot.digest made) made is_made h
    of_candidate None is_made h = absurd cc

-- the key of the key slot that opens has a length of this mode if those of all key slots to be tried do
pub opened_key_length : (mode : Mode) (entries : List Entry) (image pass : List ℕ) (opened : Opened)
    → AllByRecursion (λ (entry : Entry). IsTriable (length image) entry.slot) entries
    → AllByRecursion (λ (entry : Entry). is_mode_key_length mode entry.slot.parts.key_bytes ≡ true) entries
    → first_opening entries image pass ≡ Some opened → is_mode_key_length mode (length opened.key) ≡ true
unfolding first_opening
opened_key_length mode [] image pass opened triable known is = absurd cc
opened_key_length mode (entry ∷ entries) image pass opened triable known is =
    of_key (slot_key entry image pass) refl
    (opened_key_length mode entries image pass opened triable.1 known.1) is
  where
    of_key : (key : Option (List ℕ)) → slot_key entry image pass ≡ key
        → (first_opening entries image pass ≡ Some opened → is_mode_key_length mode (length opened.key) ≡ true)
        → opened_or entry.number key (first_opening entries image pass) ≡ Some opened
        → is_mode_key_length mode (length opened.key) ≡ true
    of_key (Some key) gives further h =
        let made : Opened = record { slot = entry.number; key = key } in
        let same : made ≡ opened = same_Some _ _ h in
        subst (λ (o : Opened). is_mode_key_length mode (length o.key) ≡ true) same
        (ap (is_mode_key_length mode) (slot_key_length entry image pass key triable.0 gives) ∙ known.0)
    of_key None gives further h = further h
