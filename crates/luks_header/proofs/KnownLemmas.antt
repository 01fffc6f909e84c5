-- Properties of headers, whatever their format: how they are read, and their key slots and digests.
use Rattle.std.proofs.lemmas.Bool.{cases_lt, ltb-false}
use Rattle.std.proofs.Common.{◌≡◌, ◌∙◌, ℕ, ◌≤◌, ap, refl, sym, subst, Bool, true, false, List, length, Option, Some}
use Rattle.std.proofs.Common.{None}
use Rattle.std.proofs.Common.{Ok, Err, ◌<◌, inl, inr, min}
use Rattle.std.proofs.Common.{arith}
use Rattle.std.proofs.lemmas.Option.{same_Some}
use Rattle.std.specs.Prelude.{nat_lt, if◌then◌else◌, IsTrue, ◌↔◌, ok_or, option_map}
use Rattle.std.specs.Option.{option_map_or}
use Rattle.luks_cipher.specs.Sector.{is_mode_key_length}
use Rattle.luks_cipher.specs.declared.mode.Mode.{Mode}
use Rattle.luks_kdf.specs.declared.hash.Hash.{Hash}
use Rattle.luks_format.specs.Derivation.{is_allowed}
use Rattle.luks_format.specs.Slot.{material_end}
use Rattle.luks_format.specs.declared.derivation.Derivation.TheVariants.{Pbkdf2}
use Rattle.luks_format.specs.declared.derivation.Limits.{Limits}
use Rattle.luks_format.specs.declared.segment.Segment.{Segment}
use Rattle.luks_format.specs.declared.slot.Slot.{Slot}
use Rattle.luks_format.specs.declared.slot.Verdict.TheVariants.{Usable}
use Rattle.luks_format.proofs.ValidationLemmas.{IsReadable-ok, slot_usable_at}
use Rattle.luks_format.specs.Fields.{at}
use Rattle.luks_format.specs.declared.fault.HeaderFault.TheVariants.{Cut, Json, Memory}
use Rattle.luks_format.specs.Header1.{header1_len, header1_of, is_luks1}
use Rattle.luks_format.specs.Slot1.{payload1_start}
use Rattle.luks_format.specs.Choice2.{chosen2_of}
use Rattle.luks_format.specs.Text2.{json_text_of}
use Rattle.luks_format.specs.declared.binary_header2.Header2.{Header2}
use Rattle.luks_format.proofs.Choice2Lemmas.{read_attached, probe_some}
use Rattle.luks2_json.specs.Member.{is_length_for}
use Rattle.luks2_json.specs.Tree.{tree_of}
use Rattle.serde_json.specs.Data.{Data}
use Rattle.luks2_metadata.specs.Segment2.{payload2_start}
use Rattle.luks2_metadata.proofs.SegmentLemmas.{segment2-ok}
use Rattle.luks2_metadata.proofs.SlotLemmas.{IsSaltFor, same_slot2, usable2_at}
use Rattle.luks_format.specs.Rule.{exceeds}
use Rattle.luks_header.specs.Header.{bounds2_of, header_of, is_detached, with_text}
use Rattle.luks_header.specs.Header.{ReadsNoHeader, header_read_len, probe_len}
use Rattle.luks_header.specs.HeaderSegment.{segment_of}
use Rattle.luks_header.specs.SlotVerdicts.{slot_within, verdict_within}
use Rattle.luks_header.specs.declared.header.Header.{Header}
use Rattle.luks_header.specs.declared.header.Header.TheVariants.{V1, V2}
use Rattle.luks_io.specs.Devices.{ConsumedAtMost}

-- the key of a key slot may be derived in its way within these limits, its hash functions and its mode are known, the
-- key of its key material has a length that its mode allows, and the volume key has one that the payload's mode allows
pub record IsKnown (segment : Segment) (limits : Limits) (slot : Slot) : Type 0 where
  pub kdf : is_allowed limits slot.parts.derivation ≡ true
  pub salt : IsSaltFor slot.parts.derivation slot.parts.salt
  pub af : (hash : Hash) × (slot.parts.af_hash ≡ Some hash)
  pub volume_key : is_mode_key_length segment.mode slot.parts.key_bytes ≡ true
  pub area : (mode : Mode) × (slot.parts.area_mode ≡ Some mode)
      × (is_mode_key_length mode slot.parts.area_key_bytes ≡ true)

key_length : (read : Option Mode) (mode : Mode) (n m : ℕ) → read ≡ Some mode
    → option_map_or (λ mode. is_mode_key_length mode n) read false ≡ true → m ≡ n → is_mode_key_length mode m ≡ true
key_length read mode n m is known same =
    subst (λ k. is_mode_key_length mode k ≡ true) (sym same) (subst
    (λ r. option_map_or (λ mode. is_mode_key_length mode n) r false ≡ true) is known)

ends_before : (start : Option ℕ) (offset end : ℕ) → start ≡ Some offset → exceeds start end ≡ false → end ≤ offset
ends_before start offset end is within =
    ltb-false offset end (subst (λ s. exceeds s end ≡ false) is within)

-- if a key slot can be tried, there is what is needed to open it
pub slot_of_usable : (header : Header) (limits : Limits) (number : ℕ) (slot : Slot)
    → verdict_within header limits number ≡ Some (Usable slot)
    → slot_within header limits number ≡ Some slot
unfolding verdict_within slot_within
slot_of_usable (V1 header) limits number slot is = (slot_usable_at header limits.max_iterations number slot is).1
slot_of_usable (V2 header tree) limits number slot is = (usable2_at tree (bounds2_of header) limits number slot is).1

-- it does not depend on the limits
pub same_slot : (header : Header) (limits limits' : Limits) (number : ℕ) (slot slot' : Slot)
    → verdict_within header limits number ≡ Some (Usable slot)
    → verdict_within header limits' number ≡ Some (Usable slot') → slot ≡ slot'
unfolding verdict_within
same_slot (V1 header) limits limits' number slot slot' is is' =
    same_Some _ _ (sym (slot_usable_at header limits.max_iterations number slot is).1
    ∙ (slot_usable_at header limits'.max_iterations number slot' is').1)
same_slot (V2 header tree) limits limits' number slot slot' is is' =
    same_slot2 tree (bounds2_of header) limits limits' number slot slot' is is'

-- if the segment is valid, the hash functions and key lengths of a key slot that can be tried are known
pub known_usable : (header : Header) (segment : Segment) (limits : Limits) (number : ℕ) (slot : Slot)
    → segment_of header ≡ Ok segment
    → verdict_within header limits number ≡ Some (Usable slot) → IsKnown segment limits slot
unfolding verdict_within segment_of is_length_for
known_usable (V1 header) segment limits number slot is_segment is =
    let read = IsReadable-ok header segment is_segment in
    let readable = read.1 in
    let mode = read.0.mode in
    let of_header = (slot_usable_at header limits.max_iterations number slot is).0 in
    let derivation : slot.parts.derivation ≡ Pbkdf2 (Some readable.hash.0) of_header.kdf.0 =
    of_header.kdf.1 ∙ ap (λ hash. Pbkdf2 hash of_header.kdf.0) readable.hash.1 in
    record {
      kdf = rw derivation refl;
      salt = rw derivation tt;
      af = (readable.hash.0, of_header.af ∙ readable.hash.1);
      volume_key = key_length _ segment.mode header.key_bytes _ mode readable.key of_header.volume_key;
      area = (
        segment.mode,
        of_header.area_mode ∙ mode,
        key_length _ segment.mode header.key_bytes _ mode readable.key of_header.area_key,
      );
    }
known_usable (V2 header tree) segment limits number slot is_segment is =
    let read = segment2-ok tree (bounds2_of header) segment is_segment in
    let of_header = (usable2_at tree (bounds2_of header) limits number slot is).0 in
    record {
      kdf = of_header.kdf;
      salt = of_header.salt;
      af = of_header.af;
      volume_key = subst (λ mode. is_length_for mode slot.parts.key_bytes ≡ true) read.mode of_header.volume_key;
      area = of_header.area;
    }

-- if the answer is that not all bytes up to `end` are loaded, fewer are
pub short_from_not_whole : (whole : Bool) (end len : ℕ) → (IsTrue whole ↔ (end ≤ len)) → whole ≡ false → len < end
short_from_not_whole whole end len iff is =
    elim (cases_lt len end) [ inl short ↦ short | inr all ↦ (let yes : whole ≡ true = iff.1 all in cc) ]

-- the header of an image is read as an attached one
pub is_attached : (image : List ℕ) (header : Header) → header_of image ≡ Ok header → is_detached header ≡ false
unfolding header_of is_detached header1_of
is_attached image header is = by (is_luks1 image) refl
  where
    of_tree : (second : Header2) → chosen2_of image ≡ Some second → (tree : Option Data)
        → ok_or (option_map (V2 second) tree) Json ≡ Ok header → is_detached header ≡ false
    of_tree second found None h = absurd cc
    of_tree second found (Some tree) h =
        let same : V2 second tree ≡ header = cc in
        subst (λ r. is_detached r ≡ false) same (read_attached image second found)

    of_second : (read : Option Header2) → chosen2_of image ≡ read → with_text image read ≡ Ok header
        → is_detached header ≡ false
    of_second (Some second) e h = of_tree second e (tree_of (json_text_of image second)) h
    of_second None e h = absurd cc

    of_first : (short : Bool) → (if short then Err Cut else Ok (V1 (header1_of (at 0 header1_len image)))) ≡ Ok header
        → is_detached header ≡ false
    of_first true h = absurd cc
    of_first false h =
        let same : V1 (header1_of (at 0 header1_len image)) ≡ header = cc in
        subst (λ r. is_detached r ≡ false) same refl

    by : (first : Bool) → is_luks1 image ≡ first → is_detached header ≡ false
    by true e = of_first (nat_lt (length image) header1_len) (rw e at is)
    by false e = of_second (chosen2_of image) refl (rw e at is)

-- with an attached header, the key material of a key slot that can be tried ends at or before the payload's start
pub before_payload : (header : Header) (segment : Segment) (limits : Limits) (number : ℕ) (slot : Slot)
    → is_detached header ≡ false
    → segment_of header ≡ Ok segment
    → verdict_within header limits number ≡ Some (Usable slot) → material_end slot.parts ≤ segment.offset
unfolding verdict_within segment_of is_detached payload1_start bounds2_of
before_payload (V1 header) segment limits number slot attached is_segment is =
    let start = (IsReadable-ok header segment is_segment).0.offset in
    let known : payload1_start header ≡ Some segment.offset = rw (attached, start) refl in
    ends_before (payload1_start header) segment.offset (material_end slot.parts) known
    (slot_usable_at header limits.max_iterations number slot is).0.before_payload
before_payload (V2 header tree) segment limits number slot attached is_segment is =
    let read = segment2-ok tree (bounds2_of header) segment is_segment in
    ends_before (payload2_start tree (bounds2_of header)) segment.offset (material_end slot.parts) (read.start attached)
    (usable2_at tree (bounds2_of header) limits number slot is).0.before_payload

-- the search for the header goes at least 592 bytes into an image, and as many bytes are read, or all of a shorter one
pub probe_is : (image : List ℕ)
    → (header_read_len image ≡ min (probe_len image) (length image)) × (592 ≤ probe_len image)
unfolding header_read_len probe_len
probe_is image = by (is_luks1 image) refl where
  by : (b : Bool) → is_luks1 image ≡ b
      → (header_read_len image ≡ min (probe_len image) (length image)) × (592 ≤ probe_len image)
  by true is = rw is (refl, omega arith)
  by false is = rw is (refl, omega (arith, probe_some image))

-- if memory ran out, no more bytes were consumed than are read for the header
pub memory_below : (image : List ℕ) (left : Option (List ℕ)) (ends ends' : ℕ)
    → ReadsNoHeader image left ends ends' Memory → ConsumedAtMost image left (header_read_len image)
memory_below image left ends ends' (inl ((count, few, consumption), same, none)) =
    (count, omega (arith, few, consumption.within, (probe_is image).0), consumption)
memory_below image left ends ends' (inr (second, consumption)) = (header_read_len image, omega arith, consumption.0)
