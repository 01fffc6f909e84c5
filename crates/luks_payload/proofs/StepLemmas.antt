-- The effect of a step, from the effects of its parts.
use Rattle.std.proofs.Common.{◌≡◌, ℕ, ◌+◌, ◌-◌, ◌*◌, ◌^◌, ◌<◌, ◌≤◌, ◌⊎◌, inl, inr, List, [], ◌++◌, Option}
use Rattle.std.proofs.Common.{Result, Ok, Err, true, false, ◌∙◌, ap, sym, subst, refl, take, drop, length}
use Rattle.std.proofs.Common.{length-append, length-drop, max, min, arith}
use Rattle.std.specs.Prelude.{nat_lt, OnOk, IfErr}
use Rattle.std.proofs.lemmas.Bool.{le-ltb, lt-ltb}
use Rattle.std.proofs.lemmas.List.{drop-drop, take-append-drop}
use Rattle.luks_format.specs.declared.segment.Segment.{Segment}
use Rattle.luks_cipher.specs.Sector.{Cipher}
use Rattle.luks_io.specs.Devices.{Appended, ConsumedExactly, IfKnown}
use Rattle.luks_io.specs.Counts.{Reads, Writes}
use Rattle.luks_io.specs.declared.counts.ReadCounts.{ReadCounts}
use Rattle.luks_io.specs.declared.counts.WriteCounts.{WriteCounts}
use Rattle.luks_io.proofs.EffectLemmas.{consumed_behind, consumed_sum, no_writes}
use Rattle.luks_payload.specs.PumpEffects.{PositionedAt, AbortsDiscarding, AbortsInSector, is_pump_read_failure}
use Rattle.luks_payload.specs.PumpEffects.{is_cut_before_payload, is_pump_write_failure, max_sectors}
use Rattle.luks_payload.specs.Plain.{ending_of_len, payload_end_of, sector_len}
use Rattle.luks_payload.specs.Plain.{sector_plaintext, sector_start, unit_number, unit_plain}
use Rattle.luks_format.proofs.RangeLemmas.{segment_whole}
use Rattle.luks_format.proofs.SectorLemmas.{sector_blocks}
use Rattle.luks_payload.specs.PumpEffects.{EndEffect, EndsAt, MayAnswer, PumpModel, SkipEffect, SkipsAgain}
use Rattle.luks_payload.specs.PumpEffects.{PositionedIn, StepEffect, ConsumesSector}
use Rattle.luks_payload.specs.PumpEffects.{WritesSectors, hits_eof_at, is_running, consumed_by, state_after_skip}
use Rattle.luks_payload.specs.declared.state.State.{State}
use Rattle.luks_payload.specs.declared.state.State.TheVariants.{BeforePayload, InPayload, Ended, Faulted}
use Rattle.luks_payload.specs.declared.fault.PayloadFault.{PayloadFault}
use Rattle.luks_payload.specs.declared.fault.PayloadFault.TheVariants.{CutBeforePayload, Read, Write}
use Rattle.luks_payload.specs.declared.state.Step.{Step}
use Rattle.luks_payload.specs.declared.state.Step.TheVariants.{Sector, End}
use Rattle.luks_payload.proofs.SectorLemmas.{at_limit, at_torn, by_ending, is_whole, is_within, none_whole}
use Rattle.luks_payload.proofs.SectorLemmas.{payload_end_in}

module _ (s : Segment) (image : List ℕ) (count : ℕ) where
  -- an end with the specified answer is the effect of a step
  steps_from_end : (cipher : Cipher) (already : ℕ) (left' before after : Option (List ℕ))
      (answer : Result Step PayloadFault) (len : ℕ) → answer ≡ ending_of_len s.size (sector_len s) len
      → EndEffect image s count already answer left' → StepEffect s cipher count already image answer left' before after
  steps_from_end cipher already l b a answer len is =
      rw is (by_ending (λ x. EndEffect image s count already x l → StepEffect s cipher count already image x l b a)
      (λ e. e) (λ n e. e) (λ n e. e) s.size (sector_len s) len)

  module _ (prefix : List ℕ) (left : Option (List ℕ)) (positioned : PositionedAt image prefix
      (sector_start s count) left) where
    -- the offset of the source's next byte in the image
    abbrev next_byte : ℕ
    next_byte = sector_start s count + length prefix

    there : next_byte ≤ length image
    there = positioned.consumption.within

    long : length (drop next_byte image) ≡ length image - next_byte
    long = length-drop next_byte image

    -- the bytes of `prefix` and the remaining ones are the image's next bytes
    joined : prefix ++ drop next_byte image ≡ drop (sector_start s count) image
    joined =
        ap (λ l. prefix ++ l) (sym (drop-drop (length prefix) (sector_start s count) image))
        ∙ ap (λ l. l ++ drop (length prefix) (drop (sector_start s count) image)) positioned.next
        ∙ take-append-drop (length prefix) (drop (sector_start s count) image)

    -- the sector was consumed
    pub sector_consumed : (left' : Option (List ℕ)) → count < max_sectors s
        → ConsumedExactly (drop next_byte image) left' (sector_len s - length prefix)
        → ConsumesSector image s count next_byte left'
    sector_consumed left' below next =
        let least = (sector_blocks s.sector_size).long in
        let within = next.within in
        let all : next_byte + (sector_len s - length prefix) ≡ max next_byte (sector_start s (count + 1)) =
        omega arith in
        record {
          is_one = is_whole (sector_len s) (omega arith) s.size count (length image - s.offset) below
              (omega (arith, there, long));
          consumption = subst (ConsumedExactly image left') all (consumed_behind image left left' next_byte
              (sector_len s - length prefix) positioned.consumption next);
        }

    -- a read or a write failed
    pub step_aborted : (cipher : Cipher) (left' before after : Option (List ℕ)) (fault : PayloadFault)
        → count < max_sectors s → AbortsInSector cipher (unit_number s count) (sector_len s) prefix
        (drop next_byte image) left' before after fault
        → StepEffect s cipher count next_byte image (Err fault) left' before after
    step_aborted cipher left' b a Read below (count', few, next) =
        let least = (sector_blocks s.sector_size).long in
        let within = next.within in
        let consumption = consumed_behind image left left' next_byte count' positioned.consumption next in
        let end = is_within (sector_len s) (omega arith) s.size count s.offset (length image) (next_byte + count')
        below (omega arith) (omega (arith, there, long)) in
        (next_byte + count', omega arith, omega arith, consumption)
    step_aborted cipher left' b a Write below (next, more) = (sector_consumed left' below next, rw joined at more)
    step_aborted cipher left' b a _ below stops = absurd stops

    -- the sector's plaintext was written
    pub sector_appended : (cipher : Cipher) (before after : Option (List ℕ))
        → IfKnown left (λ rest. Appended before after (unit_plain cipher (unit_number s count)
        (take (sector_len s) (prefix ++ rest)))) → Appended before after (sector_plaintext s cipher image count)
    sector_appended cipher b a appends = rw joined at (appends (drop next_byte image) positioned.consumption.left)

    -- the image ended before the sector did
    pub steps_torn : (cipher : Cipher) (left' before after : Option (List ℕ)) (answer : Result Step PayloadFault)
        (got : ℕ) → count < max_sectors s → IfKnown left (λ rest. (got ≡ min (sector_len s) (length (prefix ++ rest)))
        × ConsumedExactly rest left' (got - length prefix)) → got < sector_len s
        → answer ≡ ending_of_len s.size (sector_len s) (count * sector_len s + got)
        → StepEffect s cipher count next_byte image answer left' before after
    steps_torn cipher left' b a answer got below next torn is =
        let least = (sector_blocks s.sector_size).long in
        let some : 0 < sector_len s = omega arith in
        let rest = drop next_byte image in
        let whole : length image ≡ s.offset + (count * sector_len s + got) =
        omega (arith, (next rest positioned.consumption.left).0, length-append prefix rest, there, long) in
        let len : length image - s.offset ≡ count * sector_len s + got = omega arith in
        let behind : nat_lt (length image) s.offset ≡ false = le-ltb (length image) s.offset (omega arith) in
        let ends = at_torn (sector_len s) some s.size count got s.offset below torn in
        let end : payload_end_of s image ≡ length image =
        ap (λ n. payload_end_in s.size s.offset n) whole ∙ ends.1 ∙ sym whole in
        let all : max next_byte (length image) ≡ length image = omega (arith, there) in
        let more : next_byte + (got - length prefix) ≡ length image = omega (arith, there) in
        steps_from_end cipher next_byte left' b a answer (count * sector_len s + got) is (record {
          all = rw len ends.0;
          as_specified = rw (behind, len) is;
          consumption = rw (end, all) (consumed_sum image left left' next_byte (got - length prefix) (length image)
              more positioned.consumption (λ rest is. (next rest is).1));
        })

    -- the limit is reached
    pub steps_at_limit : (cipher : Cipher) (before after : Option (List ℕ)) → count ≡ max_sectors s
        → length image < 2 ^ 64 → StepEffect s cipher count next_byte image (Ok End) left before after
    steps_at_limit cipher b a is few =
        let least = (sector_blocks s.sector_size).long in
        let some : 0 < sector_len s = omega arith in
        let from : sector_start s count ≤ length image = omega (arith, there) in
        let behind : nat_lt (length image) s.offset ≡ false = le-ltb (length image) s.offset (omega (arith, there)) in
        let ends = at_limit (sector_len s) some s.size count s.offset (length image) least (segment_whole s) is from
        few in
        let same : max next_byte (s.offset + count * sector_len s) ≡ next_byte = omega arith in
        record {
          all = ends.0;
          as_specified = rw behind (sym ends.1);
          consumption = rw (ends.2, same) positioned.consumption;
        }

-- the image ends in a sector: a step may give this answer, and hit EOF if it gives it
module _ (s : Segment) (count more : ℕ) (answer : Result Step PayloadFault) (below : count < max_sectors s)
    (is : answer ≡ ending_of_len s.size (sector_len s) (count * sector_len s + more)) where
  pub may_be_torn : more < sector_len s → MayAnswer InPayload s count answer
  may_be_torn torn =
      let may : EndsAt s count answer → MayAnswer InPayload s count answer =
      rw is (by_ending (λ x. EndsAt s count x → MayAnswer InPayload s count x) (λ e. e) (λ n e. e) (λ n e. e)
      s.size (sector_len s) (count * sector_len s + more)) in
      may (inr (below, (more, torn, is)))

  pub torn_reads : (a b : ReadCounts) → Reads false true a b
      → Reads (is_pump_read_failure answer) (hits_eof_at s count answer) a b
  torn_reads a b reads =
      rw is (by_ending (λ x. Reads (is_pump_read_failure x) (hits_eof_at s count x) a b)
      (rw (lt-ltb count (max_sectors s) below) reads) (λ n. reads) (λ n. reads)
      s.size (sector_len s) (count * sector_len s + more))

  pub torn_writes : (a b : WriteCounts) → Writes false a b → Writes (is_pump_write_failure answer) a b
  torn_writes a b writes =
      rw is (by_ending (λ x. Writes (is_pump_write_failure x) a b) writes (λ n. writes) (λ n. writes)
      s.size (sector_len s) (count * sector_len s + more))

  pub torn_writes_nothing : (written unwritten : Type 0) → unwritten → WritesSectors answer written unwritten
  torn_writes_nothing written unwritten same =
      rw is (by_ending (λ x. WritesSectors x written unwritten) same (λ n. same) (λ n. same)
      s.size (sector_len s) (count * sector_len s + more))

-- a read or a write failed in a sector
module _ (s : Segment) (count : ℕ) (fault : PayloadFault) (only : (fault ≡ Read) ⊎ (fault ≡ Write)) where
  pub may_abort : MayAnswer InPayload s count (Err fault)
  may_abort = elim only [ inl is ↦ rw is tt | inr is ↦ rw is tt ]

  pub aborted_reads : (a b : ReadCounts) → Reads (is_pump_read_failure {T = ℕ} (Err fault)) false a b
      → Reads (is_pump_read_failure {T = Step} (Err fault)) (hits_eof_at s count (Err fault)) a b
  aborted_reads a b reads = elim only [ inl is ↦ rw is (rw is at reads) | inr is ↦ rw is (rw is at reads) ]

  pub aborted_writes : (a b : WriteCounts) → Writes (is_pump_write_failure {T = ℕ} (Err fault)) a b
      → Writes (is_pump_write_failure {T = Step} (Err fault)) a b
  aborted_writes a b writes = elim only [ inl is ↦ rw is (rw is at writes) | inr is ↦ rw is (rw is at writes) ]

  pub writes_no_sector : (written unwritten : Type 0) → (fault ≡ Read → unwritten)
      → WritesSectors (Err fault) written unwritten
  writes_no_sector written unwritten unread = elim only [ inl is ↦ rw is (unread is) | inr is ↦ rw is tt ]

-- a pump before its payload has consumed no more than was consumed when it was made
at_first : (p : PumpModel) → p.state ≡ BeforePayload → p.prefix ≡ [] → consumed_by p ≡ p.consumed_before
at_first p first bare = rw (first, bare) (omega arith)

-- the effect of a skip, from the effect of discarding its bytes
module _ (p : PumpModel) (image : List ℕ) (r r' : Option (List ℕ)) (early : p.consumed_before ≤ p.segment.offset)
    (first : p.state ≡ BeforePayload) (bare : p.prefix ≡ []) (positioned : PositionedIn image p r) where
  consumption : ConsumedExactly image r p.consumed_before
  consumption = subst (ConsumedExactly image r) (at_first p first bare) positioned.positioned.consumption

  pub skips : (answer : Result (Unit {0}) PayloadFault)
      → OnOk answer (IfKnown r (λ rest. ConsumedExactly rest r' (p.segment.offset - p.consumed_before)))
      → IfErr answer (λ fault. IfKnown r (λ l. AbortsDiscarding (p.segment.offset - p.consumed_before) l r' fault))
      → SkipEffect p image answer r'
  skips (Ok _) ok err =
      consumed_sum image r r' p.consumed_before (p.segment.offset - p.consumed_before) p.segment.offset (omega arith)
      consumption ok
  skips (Err CutBeforePayload) ok err =
      let (few, next) = err (drop p.consumed_before image) consumption.left in
      let long = length-drop p.consumed_before image in
      let whole : p.consumed_before + length (drop p.consumed_before image) ≡ length image =
      omega (arith, consumption.within) in (
        omega (arith, consumption.within),
        subst (ConsumedExactly image r') whole
            (consumed_behind image r r' p.consumed_before (length (drop p.consumed_before image)) consumption next),
      )
  skips (Err Read) ok err =
      let (count, few, next) = err (drop p.consumed_before image) consumption.left in (
        p.consumed_before + count,
        omega arith,
        omega arith,
        consumed_behind image r r' p.consumed_before count consumption next,
      )
  skips (Err _) ok err = absurd (err (drop p.consumed_before image) consumption.left)

-- if a skip failed, a running pump was before its payload
pub was_before : (state : State) (fault : PayloadFault) (T : Type 0) → SkipsAgain state (Err fault) T
    → is_running state ≡ true → state ≡ BeforePayload
was_before BeforePayload fault T again running = refl
was_before InPayload fault T again running =
    let not = again.0 in
    cc
was_before _ fault T again running = cc

-- a step whose skip failed
module _ (p : PumpModel) (image : List ℕ) (r r' before after : Option (List ℕ)) (first : p.state ≡ BeforePayload)
    (fresh : (p.count ≡ 0) × (p.prefix ≡ [])) (positioned : PositionedIn image p r) where
  pub steps_unskipped : (fault : PayloadFault) → SkipEffect p image (Err fault) r'
      → StepEffect p.segment p.cipher p.count (consumed_by p) image (Err fault) r' before after
  steps_unskipped CutBeforePayload (cut, left) =
      let len : length image - p.segment.offset ≡ 0 = omega arith in
      let behind : nat_lt (length image) p.segment.offset ≡ true = lt-ltb (length image) p.segment.offset cut in
      let there : consumed_by p ≤ length image = positioned.positioned.consumption.within in
      let end : max (consumed_by p) (payload_end_of p.segment image) ≡ length image =
      omega arith in
      record {
        all = rw len (fresh.0 ∙ sym (none_whole p.segment.size (sector_len p.segment)));
        as_specified = rw behind refl;
        consumption = rw end left;
      }
  steps_unskipped Read (offset, least, most, left) =
      let from : consumed_by p ≤ offset = omega (arith, at_first p first fresh.1) in
      (offset, from, omega (arith, left.within), left)
  steps_unskipped _ stops = absurd stops

-- the reads of a failed skip are those of its step, which makes no write
module _ (s : Segment) (count : ℕ) (fault : PayloadFault) (only : (fault ≡ CutBeforePayload) ⊎ (fault ≡ Read)) where
  pub unskipped_reads : (a b : ReadCounts)
      → Reads (is_pump_read_failure {T = Unit {0}} (Err fault)) (is_cut_before_payload {T = Unit {0}} (Err fault)) a b
      → Reads (is_pump_read_failure {T = Step} (Err fault)) (hits_eof_at s count (Err fault)) a b
  unskipped_reads a b reads = elim only [ inl is ↦ rw is (rw is at reads) | inr is ↦ rw is (rw is at reads) ]

  pub unskipped_writes : (a : WriteCounts) → Writes (is_pump_write_failure {T = Step} (Err fault)) a a
  unskipped_writes a = elim only [ inl is ↦ rw is (no_writes a) | inr is ↦ rw is (no_writes a) ]

-- the effect of a step from the payload's start on is also the effect of one from an earlier offset
module _ (s : Segment) (cipher : Cipher) (count already : ℕ) (image : List ℕ) (l b a : Option (List ℕ))
    (early : already ≤ s.offset) (there : s.offset ≤ length image) where
  ends_earlier : (answer : Result Step PayloadFault) → EndEffect image s count s.offset answer l
      → EndEffect image s count already answer l
  ends_earlier answer ends =
      let same : max s.offset (payload_end_of s image) ≡ max already (payload_end_of s image) =
      omega arith in
      record { all = ends.all; as_specified = ends.as_specified; consumption = rw same at ends.consumption }

  consumes_earlier : ConsumesSector image s count s.offset l → ConsumesSector image s count already l
  consumes_earlier consumes =
      let same : max s.offset (sector_start s (count + 1)) ≡ max already (sector_start s (count + 1)) =
      omega arith in
      record { is_one = consumes.is_one; consumption = rw same at consumes.consumption }

  steps_earlier : (answer : Result Step PayloadFault) → StepEffect s cipher count s.offset image answer l b a
      → StepEffect s cipher count already image answer l b a
  steps_earlier (Ok Sector) (consumes, appends) = (consumes_earlier consumes, appends)
  steps_earlier (Err Read) (n, first, last, consumption) = (n, omega arith, last, consumption)
  steps_earlier (Err Write) (consumes, appends) = (consumes_earlier consumes, appends)
  steps_earlier ending ends = ends_earlier ending ends

-- a step continues where its skip left the source
module _ (p : PumpModel) (image : List ℕ) (r r' r'' before after : Option (List ℕ)) (answer : Result Step PayloadFault)
    (positioned : PositionedIn image p r) (early : p.consumed_before ≤ p.segment.offset) where
  pub steps_skipped : (state : State) (T : Type 0) → p.state ≡ state → SkipsAgain state (Ok tt) T → (T → r' ≡ r)
      → (p.state ≡ BeforePayload → (p.count ≡ 0) × (p.prefix ≡ []))
      → (p.state ≡ BeforePayload → ConsumedExactly image r' p.segment.offset)
      → (PositionedAt image p.prefix (sector_start p.segment p.count) r' → StepEffect p.segment p.cipher p.count
      (sector_start p.segment p.count + length p.prefix) image answer r'' before after)
      → StepEffect p.segment p.cipher p.count (consumed_by p) image answer r'' before after
  steps_skipped BeforePayload T first again same fresh skipped steps =
      let (none, bare) = fresh first in
      let left = skipped first in
      let from : consumed_by p ≤ p.segment.offset = omega (arith, at_first p first bare) in
      let start : p.segment.offset ≡ sector_start p.segment p.count + length p.prefix = rw (none, bare) (omega arith) in
      let next : p.prefix ≡ take (length p.prefix) (drop (sector_start p.segment p.count) image) = rw bare refl in
      steps_earlier p.segment p.cipher p.count (consumed_by p) image r'' before after from left.within answer
      (subst (λ n. StepEffect p.segment p.cipher p.count n image answer r'' before after) (sym start)
      (steps (record { next = next; consumption = subst (ConsumedExactly image r') start left })))
  steps_skipped InPayload T is again same fresh skipped steps =
      rw is (steps (rw (same again.1) (rw is at positioned.positioned)))
  steps_skipped _ T is again same fresh skipped steps =
      let running = rw is at positioned.running in
      absurd cc

-- if a skip succeeded and the pump has not ended, it is in its payload, and was before it or in it already
pub resumed : (state now : State) (T : Type 0) → SkipsAgain state (Ok tt) T
    → now ≡ state_after_skip {T = Unit {0}} state (Ok tt) → (now ≡ Ended → ⊥)
    → (now ≡ InPayload) × ((state ≡ BeforePayload) ⊎ ((state ≡ InPayload) × T))
resumed BeforePayload now T again is going = (is, inl refl)
resumed InPayload now T again is going = (is, inr (refl, again.1))
resumed Ended now T again is going = absurd (going is)
resumed (Faulted fault) now T again is going = absurd cc
