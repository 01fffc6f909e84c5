-- Finding the volume of an image, and counts of its reads.
use Rattle.std.proofs.Common.{◌≡◌, ◌∙◌, ℕ, ◌⊎◌, inl, inr, List, [], Option, Some, Ok, Err, true, false, ap, refl}
use Rattle.std.proofs.Common.{Bool, sym, arith, drop, length-drop}
use Rattle.std.specs.Prelude.{IsOk, Result, is_err}
use Rattle.std.specs.Result.{result_map_both}
use Rattle.luks_io.proofs.EffectLemmas.{reads_more}
use Rattle.luks_io.specs.Counts.{Reads}
use Rattle.luks_io.specs.Devices.{ConsumedExactly, counted}
use Rattle.luks_io.specs.declared.counts.ReadCounts.{ReadCounts}
use Rattle.luks_format.specs.Area.{HeaderAreaModel}
use Rattle.luks_format.specs.declared.fault.HeaderFault.{HeaderFault}
use Rattle.luks_format.specs.declared.fault.HeaderFault.TheVariants.{Read as HeaderRead, Memory as HeaderMemory}
use Rattle.luks_format.specs.declared.refusal.SegmentFault.{SegmentFault}
use Rattle.luks_format.specs.declared.segment.Segment.{Segment}
use Rattle.luks_header.specs.Header.{ReadsNoHeader, header_read_len}
use Rattle.luks_header.proofs.KnownLemmas.{memory_below}
use Rattle.luks_header.specs.HeaderSegment.{segment_of}
use Rattle.luks_header.specs.declared.header.Header.{Header}
use Rattle.luks_open.specs.Opening.{OrderModel, order_within}
use Rattle.luks_open.specs.declared.fault.OpenFault.{OpenFault}
use Rattle.luks_open.specs.declared.fault.OpenFault.TheVariants.{Memory}
use Rattle.luks_open.specs.declared.fault.VolumeFault.TheVariants.{Header as HeaderNotRead}
use Rattle.luks_open.specs.declared.fault.VolumeFault.TheVariants.{Segment as SegmentRefused, Slots}
use Rattle.luks_open.specs.declared.allowed.AllowedSlots.{AllowedSlots}
use Rattle.luks_open.specs.Location.{LoadedFrom, reader_for}
use Rattle.luks_open.specs.declared.location.HeaderLocation.{HeaderLocation}
use Rattle.luks_open.specs.Volume.{FindsNoVolume, FindsVolume, MayRunOut, Volume, volume_by}
use Rattle.luks_open.specs.declared.found.FoundVolume.{FoundVolume}
use Rattle.std.proofs.Common.{◌≤◌, length}
use Rattle.std.specs.Prelude.{◌==◌, if◌then◌else◌}
use Rattle.luks_header.specs.Header.{header_of}
use Rattle.luks_header.proofs.KnownLemmas.{probe_is}
use Rattle.luks_format.specs.declared.fault.HeaderFault.TheVariants.{Memory}
use Rattle.luks_open.specs.declared.location.HeaderLocation.TheVariants.{Attached, Detached}

pub header_read_len_within : (image : List ℕ) → header_read_len image ≤ length image
header_read_len_within image = omega (arith, (probe_is image).0)

-- if no attached header can be read, no detached one can either
pub reading_fault : (location : HeaderLocation) (image : List ℕ) (fault : HeaderFault) → header_of image ≡ Err fault
    → reader_for location image ≡ Err fault
reading_fault Attached image fault none = none
reading_fault Detached image fault none = rw none refl

-- no bytes remain of an image on which EOF was hit
pub none_remain : (area : HeaderAreaModel) (left left' : Option (List ℕ)) (counts counts' : ReadCounts)
    (known rest : List ℕ) → LoadedFrom area left left' counts counts' → left ≡ Some known → left' ≡ Some rest
    → area.ended ≡ true → rest ≡ []
none_remain area left left' counts counts' known rest loaded knows there ended =
    let same : Some rest ≡ Some [] = sym there ∙ loaded.emptied ended known knows in cc

-- ---- counts of reads

-- if the first reads hit EOF and the others changed no count, all of them together hit EOF
reads_after_end : (failed ended : Bool) (a b c : ReadCounts) → Reads false true a b → c ≡ b → Reads failed ended b c
    → Reads failed true a c
reads_after_end failed ended a b c first kept next = record {
  failures = next.failures ∙ ap (counted failed) first.failures;
  ends = ap (λ (counts : ReadCounts). counts.ends) kept ∙ first.ends;
  needed = λ live. ap (λ (counts : ReadCounts). counts.needless) kept ∙ first.needed live;
  reached = next.reached ∙ first.reached;
}

-- reads without a failure and further reads count as one run of reads, if none was made after the end
pub reads_on : (failed ended ended' : Bool) (a b c : ReadCounts) → Reads false ended a b → (ended ≡ true → c ≡ b)
    → Reads failed ended' b c → (last : Bool) × Reads failed last a c
reads_on failed true ended' a b c first kept next = (true, reads_after_end failed ended' a b c first (kept refl) next)
reads_on failed false ended' a b c first kept next = (ended', reads_more failed ended' a b c first next)

-- ---- the header of an image

-- the same bytes remain, so as many were consumed
pub consumed_same : (known : List ℕ) (left : Option (List ℕ)) (m n : ℕ) → ConsumedExactly known left m
    → ConsumedExactly known left n → m ≡ n
consumed_same known left m n one other =
    let same : Some (drop m known) ≡ Some (drop n known) = sym one.left ∙ other.left in
    let rests : drop m known ≡ drop n known = cc in
    omega (arith, ap length rests, length-drop m known, length-drop n known, one.within, other.within)

-- the volume with this header, this segment and this order
abbrev pub volume_with : Header → Segment → OrderModel → Volume
volume_with header segment order = record { header = header; segment = segment; order = order }

module _ (location : HeaderLocation) (slots : AllowedSlots) (image : List ℕ) (left : Option (List ℕ)) where
  -- memory ran out before a header was read
  ran_out_early : (ends ends' : ℕ) → ReadsNoHeader image left ends ends' HeaderMemory → (count : ℕ)
      → ConsumedExactly image left count → MayRunOut (reader_for location) slots image count
  ran_out_early ends ends' (inl ((some, few, consumption), same, none)) count is = inl (
    omega (arith, few, consumed_same image left count some is consumption),
    λ first. consumed_same image left count 0 is (none first),
  )
  ran_out_early ends ends' (inr (second, consumption)) count is =
      inr (inl (second, consumed_same image left count _ is consumption.0))

  -- if there is no header, or reading it was aborted, no volume is found
  pub aborts_without_header : (ends ends' : ℕ) (fault : HeaderFault) → ReadsNoHeader image left ends ends' fault
      → FindsNoVolume (reader_for location) slots image left (HeaderNotRead fault)
  unfolding volume_by
  aborts_without_header ends ends' HeaderRead stop =
      record {
        none = λ never. absurd cc;
        memory = λ is. absurd cc;
        ran_out = λ aborted unread. absurd cc;
        no_argon2 = λ slot memory is. cc;
        consumed = stop.0;
      }
  aborts_without_header ends ends' HeaderMemory stop = record {
    none = λ never. absurd cc;
    memory = λ is. absurd cc;
    ran_out = λ aborted unread. ran_out_early ends ends' stop;
    no_argon2 = λ slot memory is. cc;
    consumed = memory_below image left ends ends' stop;
  }
  aborts_without_header ends ends' fault stop = record {
    none = λ never. rw (reading_fault location image fault stop.0) refl;
    memory = λ is. absurd cc;
    ran_out = λ aborted. absurd cc;
    no_argon2 = λ slot memory is. cc;
    consumed = stop.1.0;
  }

  module _ (header : Header) (found : reader_for location image ≡ Ok header)
      (rest : ConsumedExactly image left (header_read_len image)) where
    -- if the header's segment is refused, no volume is found
    pub aborts_without_segment : (fault : SegmentFault) → segment_of header ≡ Err fault
        → FindsNoVolume (reader_for location) slots image left (SegmentRefused fault)
    unfolding volume_by
    aborts_without_segment fault is =
        record {
          none = λ never. rw (found, is) refl;
          memory = λ is. absurd cc;
          ran_out = λ aborted. absurd cc;
          no_argon2 = λ slot memory same. cc;
          consumed = rest;
        }

    -- if there is no order of its key slots, or memory for that ran out, no volume is found
    pub aborts_without_order : (segment : Segment) → segment_of header ≡ Ok segment → (fault : OpenFault)
        → (fault ≡ Memory) ⊎ (order_within header slots.named slots.limits ≡ Err fault)
        → (fault ≡ Memory → IsOk (order_within header slots.named slots.limits))
        → FindsNoVolume (reader_for location) slots image left (Slots fault)
    unfolding volume_by
    aborts_without_order segment is Memory why ordered =
        let there : IsOk (volume_by (reader_for location) slots image) =
        rw (found, is) (in_order (order_within header slots.named slots.limits) (ordered refl)) in
        record {
          none = λ never. absurd cc;
          memory = λ same. there;
          ran_out = λ aborted unread count consumption. inr (inr there);
          no_argon2 = λ slot memory same. cc;
          consumed = (header_read_len image, omega arith, rest);
        }
      where
        in_order : (r : Result OrderModel OpenFault) → IsOk r
            → IsOk (result_map_both (volume_with header segment) Slots r)
        in_order (Ok order) there = refl
        in_order (Err _) there = absurd cc
    aborts_without_order segment is _ (inl memory) ordered = cc
    aborts_without_order segment is _ (inr none) ordered =
        record {
          none = λ never. rw (found, is, none) refl;
          memory = λ same. absurd cc;
          ran_out = λ aborted. absurd cc;
          no_argon2 = λ slot memory same. cc;
          consumed = rest;
        }

-- the header of an image, its segment and its order make its volume
pub volume_is : (location : HeaderLocation) (slots : AllowedSlots) (image : List ℕ) (header : Header)
    (segment : Segment)
    (order : OrderModel) → reader_for location image ≡ Ok header → segment_of header ≡ Ok segment
    → order_within header slots.named slots.limits ≡ Ok order
    → volume_by (reader_for location) slots image ≡ Ok (record { header = header; segment = segment; order = order })
unfolding volume_by
volume_is location slots image header segment order found is ordered = rw (found, is, ordered) refl

-- an image in which a volume was found has one
pub there_is_volume : (location : HeaderLocation) (slots : AllowedSlots) (volume : FoundVolume)
    (left left' : Option (List ℕ)) (counts counts' : ReadCounts) (known : List ℕ)
    → FindsVolume location slots volume left left' counts counts' → left ≡ Some known
    → is_err (volume_by (reader_for location) slots known) ≡ true → ⊥
there_is_volume location slots volume left left' counts counts' known found is none =
    let there = volume_is location slots known volume.header volume.segment volume.order (found.found known is).header
    found.slots.segment found.slots.order in
    let wrong : false ≡ true = rw there at none in
    cc
