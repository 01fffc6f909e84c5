-- Parts of a plaintext: sectors that are decrypted one after the other, and ranges that are joined from smaller ones.
use Rattle.std.proofs.Common.{◌≡◌, ℕ, ◌+◌, ◌-◌, ◌*◌, ◌/◌, ◌%◌, ◌<◌, ◌≤◌, List, ◌++◌, length, take, drop}
use Rattle.std.proofs.Common.{◌^◌, arith, refl, sym, ap, ◌∙◌}
use Rattle.std.proofs.Common.{length-append, length-drop, Option, Some, Result, Ok, Err, Bool, subst}
use Rattle.std.proofs.lemmas.List.{drop-drop, drop_at, length-take-le, take-take}
use Rattle.std.proofs.lemmas.Slice.{take-put_mid}
use borrow.Rule.Slice.PartMut.{put_mid}
use Rattle.std.proofs.Math.Nat.{div-mul_cancel, dvd_of_mod-eq-zero, mod-add-div'}
use Rattle.std.specs.Prelude.{OnOk}
use Rattle.std.proofs.Math.Seq.{take-add, take-append-add}
use Rattle.luks_io.specs.Devices.{IfKnown}
use Rattle.luks_kdf.proofs.BytesLemmas.{joined_length, joined_more, joined_same}
use Rattle.luks_cipher.specs.Sector.{Cipher, sector_decrypted, units_decrypted}
use Rattle.luks_kdf.specs.Bytes.{joined}
use Rattle.luks_format.specs.declared.segment.Segment.{Segment}
use Rattle.luks_payload.specs.Plain.{plain_of, sector_len, sector_plaintext, sector_start, sectors_of}
use Rattle.luks_payload.specs.Plain.{unit_number, unit_plain, payload_bytes}
use Rattle.luks_payload.proofs.SectorLemmas.{one_more_fits}
use Rattle.luks_runs.proofs.PayloadLemmas.{plain_len, sector_size, take_whole, within_len}
use Rattle.luks_access.proofs.FailingLemmas.{fails_more, few_sectors, some_sector, step_fails}
use Rattle.luks_access.specs.Steps.{IsStep}
use Rattle.luks_access.specs.declared.step.ReadStep.{ReadStep}
use Rattle.luks_access.specs.Sectors.{AreStored, FailsInRange, FailsWithin, IsAt}
use Rattle.luks_access.specs.Sectors.{IsRangeOf, ReadsRange, plain_at, plain_in}
use Rattle.luks_access.specs.Sectors.{plaintext_len, range_fault, sector_in}
use Rattle.luks_access.specs.declared.image.ReadAtFault.{ReadAtFault}
use Rattle.luks_access.specs.declared.image.ReadAtFault.TheVariants.{Failed, Ended}
use Rattle.luks_access.specs.declared.fault.RangeFault.{RangeFault}
use Rattle.luks_access.specs.declared.fault.RangeFault.TheVariants.{PastEnd, Read, Shorter}
use Rattle.luks_format.proofs.FieldLemmas.{at_prefix}

-- ---- joined pieces

-- n pieces from number a on are a part of the joined pieces
joined_part : (f : ℕ → List ℕ) (z a n total : ℕ) → ((j : ℕ) → j < total → length (f j) ≡ z) → a + n ≤ total
    → take (n * z) (drop (a * z) (joined f total)) ≡ joined (λ j. f (a + j)) n
joined_part f z a n total sizes few =
    let rest = total - (a + n) in
    let all : total ≡ a + (n + rest) = omega arith in
    let prefix : length (joined f a) ≡ a * z = joined_length f z a (λ j low. sizes j (omega arith)) in
    ap (λ k. take (n * z) (drop (a * z) (joined f k))) all
    ∙ (ap (λ l. take (n * z) (drop (a * z) l)) (joined_more f a (n + rest))
    ∙ (ap (take (n * z)) (drop_at (joined f a) (joined (λ j. f (a + j)) (n + rest)) (a * z) prefix)
    ∙ take_whole (λ j. f (a + j)) z (n + rest) n (λ j low. sizes (a + j) (omega arith)) (omega arith)))

-- ---- sectors decrypted one after the other

-- the unit number of sector `first + j`, counted from that of sector `first`
number_after : (s : Segment) (first j : ℕ)
    → (unit_number s first + j * (sector_len s / 512)) % 2 ^ 64 ≡ unit_number s (first + j)
number_after s first j =
    let units = sector_len s / 512 in
    let both : (first + j) * units ≡ first * units + j * units = omega arith in
    rw both (omega arith)

-- decrypting data units that follow one another decrypts all sectors of `stored`
pub units_of_payload : (s : Segment) (cipher : Cipher) (first : ℕ) (stored : List ℕ)
    → units_decrypted cipher.0 cipher.1 (unit_number s first) (sector_len s) stored ≡ plain_in s cipher first stored
unfolding units_decrypted unit_plain
units_of_payload s cipher first stored =
    joined_same _ (sector_in s cipher first stored) (length stored / sector_len s)
    (λ j low. ap (λ n. sector_decrypted cipher.0 cipher.1 n (take (sector_len s) (drop (j * sector_len s) stored)))
    (number_after s first j))

-- ---- sectors of an image

module _ (s : Segment) (cipher : Cipher) (image : List ℕ) where
  -- sector j of the stored ones is sector `first + j` of the payload
  same_sector : (first : ℕ) (stored : List ℕ) → stored ≡ take (length stored) (drop (sector_start s first) image)
      → (j : ℕ) → j < length stored / sector_len s
      → sector_plaintext s cipher image (first + j) ≡ sector_in s cipher first stored j
  same_sector first stored is j low =
      let same : sector_start s first + j * sector_len s ≡ sector_start s (first + j) = omega arith in
      ap (unit_plain cipher (unit_number s (first + j)))
      (sym (ap (λ l. take (sector_len s) (drop (j * sector_len s) l)) is
      ∙ at_prefix (j * sector_len s) (sector_len s) (length stored) (drop (sector_start s first) image)
      (one_more_fits j (length stored) (sector_len s) low)
      ∙ ap (take (sector_len s)) (drop-drop (j * sector_len s) (sector_start s first) image
      ∙ ap (λ k. drop k image) same)))

  -- decrypting what is stored in the image gives that part of its plaintext
  pub part_of_plain : (first : ℕ) (stored : List ℕ) → length stored % sector_len s ≡ 0 → AreStored s image first stored
      → plain_in s cipher first stored ≡ plain_at s cipher image (first * sector_len s) (length stored)
  part_of_plain first stored whole are =
      let n = length stored / sector_len s in
      let len : n * sector_len s ≡ length stored =
      div-mul_cancel (sector_len s) (dvd_of_mod-eq-zero (sector_len s) whole) in
      sym (joined_same (λ j. sector_plaintext s cipher image (first + j)) (sector_in s cipher first stored) n
      (same_sector first stored are.there)) ∙ (sym
      (joined_part (sector_plaintext s cipher image) (sector_len s) first n (sectors_of s image)
      (sector_size s image cipher) are.within)
      ∙ ap (λ k. take k (drop (first * sector_len s) (plain_of s cipher image))) len)

-- ---- parts of a plaintext

-- two adjacent ranges are one range
pub range_joined : (plain a b : List ℕ) (offset : ℕ) → IsRangeOf plain offset a → IsRangeOf plain (offset + length a) b
    → IsRangeOf plain offset (a ++ b)
range_joined plain a b offset first second =
    let joined : take (length a + length b) (drop offset plain) ≡ a ++ b =
    take-add (length a) (length b) (drop offset plain)
    ∙ (ap (λ l. l ++ take (length b) (drop (length a) (drop offset plain))) (sym first)
    ∙ ap (λ l. a ++ l) (ap (take (length b)) (drop-drop (length a) offset plain) ∙ sym second)) in
    sym (ap (λ k. take k (drop offset plain)) (length-append a b) ∙ joined)

-- ---- parts that were read

-- the bytes after the first `skip` of a range are a range, wherever they are moved to
pub front_read : (plain unit bytes : List ℕ) (start skip n : ℕ) → IsRangeOf plain start unit → skip + n ≤ length unit
    → take n bytes ≡ take n (drop skip unit) → IsRangeOf plain (start + skip) (take n bytes)
front_read plain unit bytes start skip n whole inside are =
    let long : length (take n bytes) ≡ n =
    ap length are ∙ length-take-le n (drop skip unit) (omega (arith, length-drop skip unit)) in
    are ∙ (ap (λ l. take n (drop skip l)) whole
    ∙ (at_prefix skip n (length unit) (drop start plain) inside
    ∙ (ap (take n) (drop-drop skip start plain ∙ ap (λ k. drop k plain) (omega arith))
    ∙ ap (λ k. take k (drop (start + skip) plain)) (sym long))))

-- a buffer whose bytes after the first n were read
pub read_on : (buf b : List ℕ) (n m : ℕ) → n ≤ length buf → length b ≡ length buf - n → m ≤ length b
    → take (n + m) (put_mid n (length buf - n) buf b) ≡ take (n + m) (take n buf ++ b)
read_on buf b n m inside long few =
    sym (take-take (n + m) (n + length b) (put_mid n (length buf - n) buf b) (omega arith))
    ∙ ap (take (n + m)) (take-put_mid n (length buf - n) buf b (n + length b) refl inside)

-- a plaintext is as long as all whole sectors of the payload
pub plaintext_length : (s : Segment) (cipher : Cipher) (image : List ℕ) (image_len len : ℕ) → length image ≡ image_len
    → len ≡ payload_bytes s.size (image_len - s.offset) / sector_len s * sector_len s
    → len ≡ length (plain_of s cipher image)
plaintext_length s cipher image image_len len long is =
    is ∙ (ap (λ n. payload_bytes s.size (n - s.offset) / sector_len s * sector_len s) (sym long)
    ∙ sym (plain_len s image cipher))

-- the answer of a read that ended with this fault
abbrev pub read_answer : ReadAtFault → Result (Unit {0}) ReadAtFault
read_answer fault = Err fault

module _ (s : Segment) (cipher : Cipher) (len : ℕ) (image : Option (List ℕ)) (fails : ℕ → Bool) where
  -- where reading a part of a range failed, reading the range did
  pub reads_more : (offset offset' : ℕ) (fault : RangeFault) (a b : List ℕ) → offset' ≤ offset
      → offset + length a ≤ offset' + length b → ReadsRange s cipher len image fails offset (Err fault) a
      → ReadsRange s cipher len image fails offset' (Err fault) b
  reads_more offset offset' PastEnd a b from to reads = reads
  reads_more offset offset' Read a b from to reads =
      fails_more s fails offset (length a) offset' (length b) from to reads
  reads_more offset offset' Shorter a b from to reads = reads

  module _ (offset count : ℕ) (step : ReadStep) (is : IsStep s len offset count step) where
    -- the sectors that a step reads are whole
    sectors_read : step.read_len / sector_len s * sector_len s ≡ step.read_len
    sectors_read = div-mul_cancel (sector_len s) (dvd_of_mod-eq-zero (sector_len s) is.whole)

    -- the range begins after the bytes that are skipped
    pub starts : step.first_sector * sector_len s + step.skip ≡ offset
    starts =
        omega (arith, ap (λ n. n * sector_len s) is.first, is.skip, mod-add-div' offset (sector_len s))

    -- the bytes of a step are whole sectors of an image whose plaintext has this length
    pub step_stored : (known bytes : List ℕ) → plaintext_len s known ≡ len → length bytes ≡ step.read_len
        → IsAt known step.read_offset bytes → AreStored s known step.first_sector bytes
    step_stored known bytes all long at = record {
      there = subst (λ (k : ℕ). IsRangeOf known k bytes) is.start at.same;
      within =
          let same = ap (λ n. n / sector_len s * sector_len s) long in
          few_sectors step.first_sector (length bytes / sector_len s) (sectors_of s known) (sector_len s)
          (omega (arith, all, is.inside, sectors_read, same, some_sector s fails));
    }

    -- what a step gives of sectors that an image stores is a range of its plaintext
    pub step_reads : (known bytes : List ℕ)
        → IsRangeOf (plain_of s cipher known) (step.first_sector * sector_len s + step.skip) bytes
        → IsRangeOf (plain_of s cipher known) offset bytes
    step_reads known bytes reads = subst (λ (k : ℕ). IsRangeOf (plain_of s cipher known) k bytes) starts reads

    -- reading a step failed: one of its sectors, if a read failed. An image does not end before a part of its plaintext
    pub step_stops : (fault : ReadAtFault) (bytes given : List ℕ) → length bytes ≡ step.read_len
        → length given ≡ step.count
        → (read_answer fault ≡ Err Failed → FailsWithin fails step.read_offset (length bytes))
        → (read_answer fault ≡ Err Ended → IfKnown image (λ known. length known < step.read_offset + length bytes))
        → ReadsRange s cipher len image fails offset (Err (range_fault fault)) given
    step_stops Failed bytes given long gives failed ended =
        subst (FailsInRange s fails offset) (sym gives)
        (step_fails s fails len offset count step is (subst (FailsWithin fails step.read_offset) long (failed refl)))
    step_stops Ended bytes given long gives failed ended = λ known there all.
        let stored = length known - s.offset in
        let whole = mod-add-div' (payload_bytes s.size stored) (sector_len s) in
        omega (
          arith,
          ended refl known there,
          is.start,
          is.inside,
          is.some,
          is.within,
          long,
          all,
          within_len s.size stored,
          whole,
        )

module _ (s : Segment) (cipher : Cipher) (len : ℕ) (image : Option (List ℕ)) (fails : ℕ → Bool) (offset : ℕ) where
  -- the first bytes of a buffer were read, and then the next of them
  pub reads_next : (a b : List ℕ) (n m : ℕ) → length a ≡ n → length (take m b) ≡ m
      → ReadsRange s cipher len image fails offset (Ok tt) a
      → ReadsRange s cipher len image fails (offset + n) (Ok tt) (take m b)
      → ReadsRange s cipher len image fails offset (Ok tt) (take (n + m) (a ++ b))
  reads_next a b n m long given first second = λ known there all.
      let behind = subst (λ (k : ℕ). IsRangeOf (plain_of s cipher known) (offset + k) (take m b)) (sym long)
      (second known there all) in
      subst (IsRangeOf (plain_of s cipher known) offset)
      (sym (ap (λ k. take (k + m) (a ++ b)) (sym long) ∙ take-append-add a b m))
      (range_joined (plain_of s cipher known) a (take m b) offset (first known there all) behind)

  -- if `len` is the length of the image's plaintext, a range was read, or the image did not become shorter
  module _ (bytes : List ℕ) (image_len : ℕ) (counted : IfKnown image (λ known. image_len ≡ length known))
      (long : (known : List ℕ) → length known ≡ image_len → len ≡ length (plain_of s cipher known)) where
    all_of : (known : List ℕ) → image ≡ Some known → plaintext_len s known ≡ len
    all_of known is = sym (long known (sym (counted known is)) ∙ plain_len s known cipher)

    pub range_ends : (result : Result (Unit {0}) RangeFault) → ReadsRange s cipher len image fails offset result bytes
        → OnOk result (IfKnown image (λ known. IsRangeOf (plain_of s cipher known) offset bytes))
        × IfKnown image (λ known. result ≡ Err Shorter → ⊥)
        × (result ≡ Err Read → FailsInRange s fails offset (length bytes))
    range_ends (Ok _) reads = (λ known is. reads known is (all_of known is), λ known is wrong. (cc), λ wrong. (cc))
    range_ends (Err PastEnd) reads = absurd reads
    range_ends (Err Read) reads = (tt, λ known is wrong. (cc), λ _. reads)
    range_ends (Err Shorter) reads = (tt, λ known is wrong. reads known is (all_of known is), λ wrong. (cc))
