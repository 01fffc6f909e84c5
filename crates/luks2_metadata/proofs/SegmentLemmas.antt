-- Properties of the segment of a header, and of the values that it is read from.
use Rattle.std.proofs.lemmas.Grind.{common_steps}
use Rattle.std.proofs.Common.{◌≡◌, ◌∙◌, ℕ, sym, refl, true, false, Option, Some, None, arith, ◌≢◌}
use Rattle.std.proofs.Common.{List, [], ◌∷◌, Result, Ok, String, Global, length}
use Rattle.std.specs.Prelude.{not, codes, is_none, is_some, option_map, ◌==◌, ◌||◌, ◌&&◌, Bool}
use Rattle.std.proofs.lemmas.Bool.{not-false, ne_eqb}
use Rattle.std.proofs.lemmas.Option.{none-some}
use Rattle.luks_cipher.specs.declared.mode.Mode.{Mode}
use Rattle.luks_format.proofs.MadeLemmas.{refused_or-none, segment_from-yes}
use Rattle.luks_format.proofs.TableLemmas.{none_holds}
use Rattle.luks_format.specs.SectorSize.{has_whole_sectors}
use Rattle.luks_format.specs.declared.sector_size.SectorSize.{SectorSize as Sector}
use Rattle.luks2_json.specs.Member.{decimal_member}
use Rattle.luks2_metadata.specs.Segment2.{has_requirement, is_segment, has_segment_members, mode2_of}
use Rattle.luks2_metadata.specs.Segment2.{sector_size_of, segment_faults, size_is_wrong, size_member}
use Rattle.luks_format.specs.declared.refusal.SegmentFault.TheVariants.{Requirement, Segments}
use Rattle.luks2_metadata.specs.declared.bounds.Bounds.{Bounds}
use Rattle.luks2_metadata.specs.Segment2.{payload2_start, payload_mode2_of, fault2_of}
use Rattle.luks2_metadata.specs.Segment2.{is_empty_array}
use Rattle.luks2_metadata.specs.Segment2.{segment2_of, segment_of_members, segment_value}
use Rattle.luks2_metadata.specs.Segment2.{only_member, the_segment}
use Rattle.serde_json.specs.Data.{Data, Items, Members, array}
use Rattle.std.specs.Result.{result_ok}
use Rattle.luks_format.specs.Segment.{segment_from}
use Rattle.luks_format.specs.declared.refusal.SegmentFault.{SegmentFault}
use Rattle.luks_format.specs.declared.segment.Segment.{Segment}
use Rattle.serde_json.specs.Find.{as_array, as_object, get, get_member}
use Rattle.serde_json.specs.View.{items_view, members_view}
use Rattle.serde_json.specs.declared.value.Value.{Value}

-- ---- empty arrays

none_viewed : (values : List Value) → (length values == 0) ≡ is_empty_array (array (items_view values))
none_viewed [] = refl
none_viewed (value ∷ rest) = ne_eqb (length (value ∷ rest)) 0 (λ e. omega (arith, e))

-- a value is the array of its items
array_of : (value : Data) (items : Items) → Some items ≡ as_array value → array items ≡ value
array_of value items is = grind (arith, common_steps)

pub empty_viewed : (value : Data) (values : List Value) (len : ℕ) → Some (items_view values) ≡ as_array value
    → len ≡ length values → (len == 0) ≡ is_empty_array value
empty_viewed value values len is same = rw (← array_of value (items_view values) is, same) (none_viewed values)

-- a value that is no array is no empty one
pub not_array : (value : Data) → None ≡ as_array value → false ≡ is_empty_array value
not_array value none = grind (arith, common_steps)

-- ---- the only member

get_only : (name : List ℕ) (entries : List (String Global × Value)) → length entries ≡ 1
    → get_member name (members_view entries) ≡ only_member name (members_view entries)
get_only name [] one = absurd (omega arith)
get_only name (entry ∷ []) one = refl
get_only name (entry ∷ next ∷ rest) one = absurd (omega arith)

none_only : (name : List ℕ) (entries : List (String Global × Value)) → length entries ≢ 1
    → only_member name (members_view entries) ≡ None
none_only name [] more = refl
none_only name (entry ∷ []) more = absurd (more refl)
none_only name (entry ∷ next ∷ rest) more = refl

-- looking up a name in an object looks it up among its members
get_object : (name : List ℕ) (value : Data) (all : Members) → as_object value ≡ Some all
    → get name value ≡ get_member name all
get_object name value all is = grind (arith, common_steps)

-- the segment, if the object of segments has exactly one member, and if it has another number of members
pub segment_only : (tree segments : Data) (entries : List (String Global × Value)) (found : Option Data)
    → Some segments ≡ get (codes "segments") tree → Some (members_view entries) ≡ as_object segments
    → length entries ≡ 1 → found ≡ get (codes "0") segments → found ≡ the_segment tree
unfolding the_segment
segment_only tree segments entries found there all one is = grind (arith, common_steps, get_object, get_only)

pub segment_none : (tree segments : Data) (entries : List (String Global × Value))
    → Some segments ≡ get (codes "segments") tree → Some (members_view entries) ≡ as_object segments
    → length entries ≢ 1 → None ≡ the_segment tree
unfolding the_segment
segment_none tree segments entries there all more = rw (← there, ← all) (sym (none_only (codes "0") entries more))

-- a segment without a fault is made from its parts
pub segment2-none : (tree : Data) (bounds : Bounds) (segment : Segment) → fault2_of tree bounds ≡ None
    → segment_of_members (segment_value tree) ≡ Some segment → segment2_of tree bounds ≡ Ok segment
unfolding segment2_of
segment2-none tree bounds segment none made = refused_or-none _ _ segment none made

-- ---- the segment that parts without a fault make

-- parts that are all present make a segment, if its length is whole sectors or not fixed
made_of_parts : (offset : Option ℕ) (size : Option (Option ℕ)) (iv_tweak : Option ℕ) (sector_size : Option Sector)
    (mode : Option Mode) (encryption sized : Bool)
    → (is_some offset && is_some size && is_some iv_tweak && encryption && sized) ≡ true
    → is_none sector_size ≡ false → is_none mode ≡ false → size_is_wrong size sector_size ≡ false
    → segment_from offset size iv_tweak sector_size mode ≢ None
unfolding size_is_wrong
made_of_parts (Some offset) (Some size) (Some iv_tweak) (Some sector_size) (Some mode) _ _ members z m whole none =
    none-some _ (sym none
    ∙ segment_from-yes offset size iv_tweak sector_size mode (not-false (has_whole_sectors size sector_size) whole))
made_of_parts _ _ _ _ _ _ _ members z m whole none = absurd cc

-- a valid segment of type crypt has its members
members_there : (typed crypt members : Bool) → not (typed && (not crypt || members)) ≡ false → not crypt ≡ false
    → members ≡ true
members_there true true true is kind = cc
members_there _ _ _ is kind = absurd cc

-- a segment without a fault is made from its parts, so it is never refused with `Member`
pub made2 : (tree : Data) (bounds : Bounds) → fault2_of tree bounds ≡ None
    → segment_of_members (segment_value tree) ≢ None
unfolding fault2_of segment_of_members is_segment has_segment_members
made2 tree bounds no_fault =
    let segment = segment_value tree in
    let all = none_holds ((has_requirement tree, Requirement) ∷ (is_none (the_segment tree), Segments)
    ∷ segment_faults bounds segment) no_fault in
    let lines = all.1.1 in
    let members = members_there _ _ _ lines.0 lines.1.0 in
    made_of_parts (decimal_member (codes "offset") segment) (size_member segment)
    (decimal_member (codes "iv_tweak") segment) (sector_size_of segment) (mode2_of segment) _ _ members
    lines.1.1.1.1.0 lines.1.1.1.0 lines.1.1.1.1.1.1.0

-- ---- a segment that is not refused

-- a segment that is not refused has the mode that key slots are checked against, and with an attached header the offset
pub record IsSegment2 (tree : Data) (bounds : Bounds) (segment : Segment) : Type 0 where
  pub start : bounds.detached ≡ false → payload2_start tree bounds ≡ Some segment.offset
  pub mode : payload_mode2_of tree bounds ≡ Some segment.mode

pub segment2-ok : (tree : Data) (bounds : Bounds) (segment : Segment) → segment2_of tree bounds ≡ Ok segment
    → IsSegment2 tree bounds segment
unfolding payload2_start payload_mode2_of
segment2-ok tree bounds segment is =
    let offset_in : Result Segment SegmentFault → Option ℕ =
    λ read. option_map (λ (s : Segment). s.offset) (result_ok read) in
    record {
      start = grind (arith, common_steps);
      mode = rw is refl;
    }
