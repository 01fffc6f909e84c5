-- Forwarding a payload sector by sector.
use Rattle.std.proofs.Common.{◌≡◌, ℕ, zero, suc, ◌+◌, ◌-◌, ◌*◌, ◌/◌, ◌%◌, ◌^◌, ◌<◌, ◌≤◌, ◌⊎◌, inl, inr, List, [], ◌++◌}
use Rattle.std.proofs.Common.{Option, None, Some, Result, Ok, Err, ◌∙◌, ap, sym, refl, take, drop, length, take-take}
use Rattle.std.proofs.Common.{length-take-le, length-drop, length-append, add-one, max, arith, false}
use Rattle.std.proofs.lemmas.Bool.{cases_lt}
use Rattle.std.proofs.lemmas.List.{drop-drop, drop-take, drop_all, take_at}
use Rattle.std.proofs.Math.Nat.{div-eq_of_lt-le, div-mul-le_self, mul-le-mul_left, mul-le-mul_right}
use Rattle.std.proofs.Math.Seq.{take-append-add}
use Rattle.luks_cipher.proofs.ModeLemmas.{length-sector_decrypted}
use Rattle.luks_kdf.proofs.BytesLemmas.{joined_length, joined_more}
use Rattle.luks_cipher.specs.Sector.{Cipher}
use Rattle.luks_kdf.specs.Bytes.{joined}
use Rattle.luks_format.specs.declared.segment.Segment.{Segment}
use Rattle.luks_format.proofs.SectorLemmas.{sector_blocks}
use Rattle.luks_io.proofs.EffectLemmas.{appended-more, appended-none, no_reads}
use Rattle.luks_io.specs.Counts.{Reads}
use Rattle.luks_io.specs.Devices.{Appended, ConsumedExactly}
use Rattle.luks_io.specs.declared.counts.ReadCounts.{ReadCounts}
use Rattle.luks_payload.specs.Plain.{ending_of, payload_end_of, plain_of, sector_len, sector_plaintext}
use Rattle.luks_payload.specs.Plain.{sector_start, sectors_of, unit_number, unit_plain, payload_bytes}
use Rattle.luks_payload.specs.PumpEffects.{EndEffect, PumpModel, PositionedIn, StepEffect, WritesSectors, after_step}
use Rattle.luks_payload.specs.PumpEffects.{position, consumed_by}
use Rattle.luks_payload.specs.declared.fault.PayloadFault.{PayloadFault}
use Rattle.luks_payload.specs.declared.fault.PayloadFault.TheVariants.{Read, Write}
use Rattle.luks_payload.specs.declared.state.State.TheVariants.{BeforePayload, InPayload}
use Rattle.luks_payload.specs.declared.state.Step.{Step}
use Rattle.luks_payload.specs.declared.state.Step.TheVariants.{Sector, End}
use Rattle.luks_runs.specs.Payload.{ForwardsPayload, with_payload_allowed}
use Rattle.luks_report.specs.Faults.{message_at_end, message_for_payload}
use Rattle.luks_report.specs.declared.message.Message.TheVariants.{Done}

-- ---- lengths

-- a prefix of the joined pieces that ends with a piece
pub take_whole : (f : ℕ → List ℕ) (z n k : ℕ) → ((j : ℕ) → j < n → length (f j) ≡ z) → k ≤ n
    → take (k * z) (joined f n) ≡ joined f k
take_whole f z n k sizes below =
    let all : n ≡ k + (n - k) = omega arith in
    ap (λ m. take (k * z) (joined f m)) all ∙ ap (take (k * z)) (joined_more f k (n - k))
    ∙ take_at (joined f k) (joined (λ j. f (k + j)) (n - k)) (k * z)
    (joined_length f z k (λ j low. sizes j (omega arith)))

-- a prefix of the joined pieces that ends within piece k
take_joined : (f : ℕ → List ℕ) (z n k m : ℕ) → ((j : ℕ) → j < n → length (f j) ≡ z) → k < n → m ≤ z
    → take (k * z + m) (joined f n) ≡ joined f k ++ take m (f k)
unfolding joined
take_joined f z n k m sizes below few =
    let long = joined_length f z k (λ j low. sizes j (omega arith)) in
    let part : take (k * z + m) (joined f k ++ f k) ≡ joined f k ++ take m (f k) =
    rw (← long) (take-append-add (joined f k) (f k) m) in
    sym (take-take (k * z + m) (suc k * z) (joined f n) (omega arith))
    ∙ ap (take (k * z + m)) (take_whole f z n (suc k) sizes (omega arith)) ∙ part

pub within_len : (size : Option ℕ) (len : ℕ) → payload_bytes size len ≤ len
within_len None len = omega arith
within_len (Some size) len = omega arith

module _ (s : Segment) (image : List ℕ) where
  -- a sector of the payload ends at the payload's end or before it
  sector_before_end : (i : ℕ) → i < sectors_of s image → sector_start s (i + 1) ≤ payload_end_of s image
  sector_before_end i below =
      let z = sector_blocks s.sector_size in
      let whole = div-mul-le_self (payload_bytes s.size (length image - s.offset)) (sector_len s) in
      let more : (i + 1) * sector_len s
      ≤ sectors_of s image * sector_len s = mul-le-mul_right (sector_len s) (omega arith) in
      let some : 1 * sector_len s ≤ (i + 1) * sector_len s = mul-le-mul_right (sector_len s) (omega arith) in
      omega (arith, z.long, within_len s.size (length image - s.offset))

  -- so it also ends at the image's end or before it
  sector_there : (i : ℕ) → i < sectors_of s image → sector_start s (i + 1) ≤ length image
  sector_there i below = omega (arith, sector_before_end i below)

  -- an image of fewer than 2^64 bytes has fewer than 2^64 - 1 sectors
  pub few_sectors : length image < 2 ^ 64 → sectors_of s image < 2 ^ 64 - 1
  few_sectors counted =
      let z = sector_blocks s.sector_size in
      let all = within_len s.size (length image - s.offset) in
      let whole = div-mul-le_self (payload_bytes s.size (length image - s.offset)) (sector_len s) in
      let many : sectors_of s image * 512
      ≤ sectors_of s image * sector_len s = mul-le-mul_left (sectors_of s image) z.long in
      omega arith

  -- a sector of the payload has its full length
  pub sector_size : (cipher : Cipher) (i : ℕ) → i < sectors_of s image
      → length (sector_plaintext s cipher image i) ≡ sector_len s
  unfolding unit_plain
  sector_size cipher i below =
      let z = sector_blocks s.sector_size in
      let there = sector_there i below in
      let more : (i + 1) * sector_len s ≡ i * sector_len s + sector_len s = omega arith in
      let unit = length-take-le (sector_len s) (drop (sector_start s i) image)
      (omega (arith, length-drop (sector_start s i) image)) in
      length-sector_decrypted cipher (unit_number s i) (take (sector_len s) (drop (sector_start s i) image))
      (ap (λ n. n % 16) unit ∙ z.blocks) ∙ unit

  pub plain_len : (cipher : Cipher) → length (plain_of s cipher image) ≡ sectors_of s image * sector_len s
  plain_len cipher = joined_length (sector_plaintext s cipher image) (sector_len s) (sectors_of s image)
      (sector_size cipher)

-- ---- a running pump

-- what remains of the prefix after one more sector is the start of the remaining image
pub prefix_after_sector : (prefix image : List ℕ) (start z : ℕ) → prefix ≡ take (length prefix) (drop start image)
    → drop z prefix ≡ take (length (drop z prefix)) (drop (start + z) image)
prefix_after_sector prefix image start z next = elim (cases_lt z (length prefix)) [
  | inl many ↦
      let more : length prefix ≡ z + (length prefix - z) = omega arith in
      let rest : drop z prefix ≡ take (length prefix - z) (drop (start + z) image) =
      ap (drop z) next ∙ ap (λ n. drop z (take n (drop start image))) more
      ∙ drop-take z (length prefix - z) (drop start image) ∙ ap (take (length prefix - z)) (drop-drop z start image) in
      rest ∙ ap (λ n. take n (drop (start + z) image)) (sym (length-drop z prefix))
  | inr few ↦ let none : drop z prefix ≡ [] = drop_all z prefix (omega arith) in rw none refl
]

-- a pump on an image whose first `loaded` bytes were consumed before; its forwarded sectors are written. The next
-- byte is not before their end, nor past the start of the next sector, and the prefix is the start of that sector
pub record Forwarding (p : PumpModel) (image : List ℕ) (loaded : ℕ) (left before after : Option (List ℕ)) : Type 0 where
  pub positioned : PositionedIn image p left
  pub prefix_next : p.prefix ≡ take (length p.prefix) (drop (sector_start p.segment p.count) image)
  pub prefix_end : sector_start p.segment p.count + length p.prefix ≡ max loaded (sector_start p.segment p.count)
  pub consumed_to : consumed_by p ≡ max loaded (position p)
  pub least : p.count * sector_len p.segment ≤ position p - p.segment.offset
  pub most : position p ≤ sector_start p.segment p.count
  pub few : p.count ≤ sectors_of p.segment image
  pub wrote : Appended before after (joined (sector_plaintext p.segment p.cipher image) p.count)

pub forwarding_start : (p : PumpModel) (image : List ℕ) (loaded : ℕ) (left w : Option (List ℕ)) → p.count ≡ 0
    → p.consumed_before ≤ p.segment.offset → ((p.state ≡ BeforePayload) × (p.prefix ≡ [])) ⊎ (p.state ≡ InPayload)
    → consumed_by p ≡ loaded → PositionedIn image p left → Forwarding p image loaded left w w
unfolding joined
forwarding_start p image loaded left w none early bare consumed_to positioned = record {
  positioned = positioned;
  prefix_next = elim bare [ inl (first, empty) ↦ rw empty refl | inr is ↦ rw is at positioned.positioned.next ];
  prefix_end = elim bare [
    | inl (first, empty) ↦
        let small : length p.prefix ≡ 0 = ap length empty in
        let from : p.consumed_before + length p.prefix ≡ loaded = rw first at consumed_to in
        omega arith
    | inr is ↦
        let from : sector_start p.segment p.count + length p.prefix ≡ loaded = rw is at consumed_to in
        omega arith
  ];
  consumed_to = omega arith;
  least = rw none (omega arith);
  most = elim bare [ inl (first, empty) ↦ rw first (omega arith) | inr is ↦ rw is (omega arith) ];
  few = omega arith;
  wrote = rw none (appended-none w);
}

module _ (p : PumpModel) (image : List ℕ) (loaded : ℕ) (l b w l' w' : Option (List ℕ))
    (so_far : Forwarding p image loaded l b w)
  where
    next_start : sector_start p.segment (p.count + 1) ≡ sector_start p.segment p.count + sector_len p.segment
    next_start = omega arith

    -- after the next sector, the bytes up to its end are consumed, or the loaded ones if those are more
    consumed_after : max (consumed_by p) (sector_start p.segment (p.count + 1))
        ≡ max loaded (sector_start p.segment (p.count + 1))
    consumed_after = omega (arith, so_far.consumed_to, so_far.most, next_start)

    next_prefix : drop (sector_len p.segment) p.prefix
        ≡ take (length (drop (sector_len p.segment) p.prefix)) (drop (sector_start p.segment (p.count + 1)) image)
    next_prefix =
        rw next_start (prefix_after_sector p.prefix image (sector_start p.segment p.count) (sector_len p.segment)
        so_far.prefix_next)

    next_prefix_end : sector_start p.segment (p.count + 1) + length (drop (sector_len p.segment) p.prefix)
        ≡ max loaded (sector_start p.segment (p.count + 1))
    next_prefix_end = omega (arith, so_far.prefix_end, next_start, length-drop (sector_len p.segment) p.prefix)

    pub forwarding_more : StepEffect p.segment p.cipher p.count (consumed_by p) image (Ok Sector) l' w w'
        → Forwarding (after_step p (Ok Sector)) image loaded l' b w'
    unfolding joined
    forwarding_more step =
        let sector = step.0 in
        record {
          positioned = record {
            running = refl;
            positioned = record {
              next = next_prefix;
              consumption = rw (next_prefix_end, ← consumed_after) sector.consumption;
            };
          };
          prefix_next = next_prefix;
          prefix_end = next_prefix_end;
          consumed_to = next_prefix_end;
          least = omega arith;
          most = omega arith;
          few = omega (arith, sector.is_one);
          wrote = rw add-one (appended-more b w w' (joined (sector_plaintext p.segment p.cipher image) p.count)
              (sector_plaintext p.segment p.cipher image p.count) so_far.wrote step.1);
        }

    -- the pump's offset is not past the payload's end
    offset_in_payload : position p ≤ payload_end_of p.segment image
    offset_in_payload =
        let z = sector_len p.segment in
        let within = so_far.positioned.positioned.consumption.within in
        let all : p.count * z ≤ sectors_of p.segment image * z = mul-le-mul_right z so_far.few in
        let whole = div-mul-le_self (payload_bytes p.segment.size (length image - p.segment.offset)) z in
        omega (arith, so_far.most)

    -- the payload ended as specified
    ended : (answer : Result Step PayloadFault) → EndEffect image p.segment p.count (consumed_by p) answer l' → w' ≡ w
        → (message_at_end answer ≡ message_at_end (ending_of p.segment image))
        × ConsumedExactly image l' (max loaded (payload_end_of p.segment image))
        × Appended b w' (plain_of p.segment p.cipher image)
    ended answer end same =
        let all : max (consumed_by p) (payload_end_of p.segment image) ≡ max loaded (payload_end_of p.segment image) =
        omega (arith, so_far.consumed_to, offset_in_payload) in
        (ap message_at_end end.as_specified, rw all at end.consumption, rw (same, ← end.all) so_far.wrote)

    pub forwarding_ends : StepEffect p.segment p.cipher p.count (consumed_by p) image (Ok End) l' w w' → w' ≡ w
        → ForwardsPayload p.segment p.cipher image loaded l' b w' Done
    forwarding_ends step same = ended (Ok End) step same

    -- a read failed within the next sector
    lost : StepEffect p.segment p.cipher p.count (consumed_by p) image (Err Read) l' w w' → w' ≡ w
        → ForwardsPayload p.segment p.cipher image loaded l' b w' (message_for_payload Read)
    lost step same =
        let z = sector_blocks p.segment.sector_size in
        let end = step.0 in
        let more : (p.count + 1) * sector_len p.segment
        ≡ p.count * sector_len p.segment + sector_len p.segment = omega arith in
        let first : p.count * sector_len p.segment ≤ end - p.segment.offset =
        omega (arith, step.1, so_far.consumed_to, so_far.least) in
        let row : (end - p.segment.offset) / sector_len p.segment
        ≡ p.count = div-eq_of_lt-le (sector_len p.segment) (omega arith) (omega (arith, step.2, z.long)) in
        let whole = take_whole (sector_plaintext p.segment p.cipher image) (sector_len p.segment)
        (sectors_of p.segment image)
        p.count (sector_size p.segment image p.cipher) so_far.few in
        let later : loaded ≤ end = omega (arith, step.1, so_far.consumed_to) in
        (end, later, p.count, sym row, so_far.few, omega (arith, step.2), step.3, rw (same, whole) so_far.wrote)

    -- a write failed within the next sector
    unwritten : StepEffect p.segment p.cipher p.count (consumed_by p) image (Err Write) l' w w'
        → ForwardsPayload p.segment p.cipher image loaded l' b w' (message_for_payload Write)
    unwritten step =
        let sector = step.0 in
        let written = step.1 in
        let few = written.1 in
        let part = take_joined (sector_plaintext p.segment p.cipher image) (sector_len p.segment)
        (sectors_of p.segment image)
        p.count written.0 (sector_size p.segment image p.cipher) sector.is_one (omega arith) in (
          p.count,
          written.0,
          sector.is_one,
          few,
          sector_before_end p.segment image p.count sector.is_one,
          rw consumed_after at sector.consumption,
          rw part (appended-more b w w' (joined (sector_plaintext p.segment p.cipher image) p.count)
              (take written.0 (sector_plaintext p.segment p.cipher image p.count)) so_far.wrote written.2),
        )

    -- a step ended with a fault
    pub forwarding_aborts : (fault : PayloadFault) (Wrote Same : Type 0) → (Same → w' ≡ w)
        → WritesSectors (Err fault) Wrote Same
        → StepEffect p.segment p.cipher p.count (consumed_by p) image (Err fault) l' w w'
        → ForwardsPayload p.segment p.cipher image loaded l' b w' (message_for_payload fault)
    forwarding_aborts Read _ Same same is step = lost step (same is)
    forwarding_aborts Write _ Same same is step = unwritten step
    forwarding_aborts fault _ Same same is step = ended (Err fault) step (same is)

-- ---- read-ahead

-- read-ahead was allowed up to the payload's end
pub reads_with_payload_allowed : (s : Segment) (before after : ReadCounts) → after ≡ with_payload_allowed s before
    → Reads false false (with_payload_allowed s before) after
reads_with_payload_allowed s before after is = rw is (no_reads _)
