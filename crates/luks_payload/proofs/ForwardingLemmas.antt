-- Filling a buffer with a sector.
use Rattle.std.proofs.Common.{◌≡◌, ℕ, ◌+◌, ◌-◌, ◌<◌, ◌≤◌, inl, inr, List, [], ◌∷◌, ◌++◌, Option, Some, ◌∙◌, ap, sym}
use Rattle.std.proofs.Common.{drop, length, length-append, length-drop, length-take-le, append-nil, min, take_all}
use Rattle.std.proofs.Common.{arith, subst, take, nat_lt, true, false}
use Rattle.std.proofs.lemmas.Bool.{cases_lt, le-ltb, lt-ltb}
use Rattle.std.proofs.lemmas.List.{drop_all, take-append-le, nil_from_length, take_at, take_min}
use Rattle.std.proofs.Math.Seq.{take-append-add}
use Rattle.luks_cipher.specs.Sector.{Cipher, sector_decrypted}
use Rattle.luks_io.specs.Devices.{ConsumedExactly, Forwarded}
use Rattle.luks_io.specs.Counts.{Reads}
use Rattle.luks_io.specs.declared.counts.ReadCounts.{ReadCounts}
use Rattle.luks_io.proofs.EffectLemmas.{consumed-prefix}
use Rattle.luks_payload.specs.PumpEffects.{BeginsWith, FilledSector, AbortsInSector}
use Rattle.luks_payload.specs.Plain.{unit_plain}
use Rattle.luks_payload.specs.declared.fault.PayloadFault.TheVariants.{Write}
use borrow.Rule.Slice.PartMut.{put_mid}

-- if all requested bytes were read, EOF was not hit
pub whole_reads : (got requested : ℕ) (a b : ReadCounts) → requested ≤ got → Reads false (nat_lt got requested) a b
    → Reads false false a b
whole_reads got requested a b all reads = rw (le-ltb got requested all) at reads

-- if fewer bytes were read, EOF was hit
pub short_reads : (got requested : ℕ) (a b : ReadCounts) → got < requested → Reads false (nat_lt got requested) a b
    → Reads false true a b
short_reads got requested a b few reads = rw (lt-ltb got requested few) at reads

-- a buffer decrypts to the plaintext of a data unit, as the payload defines it
pub unit_is : (cipher : Cipher) (number : ℕ) (buf unit : List ℕ) → unit ≡ sector_decrypted cipher.0 cipher.1 number buf
    → unit ≡ unit_plain cipher number buf
unfolding unit_plain
unit_is cipher number buf unit is = is

-- a buffer of `len` bytes that was filled with the next bytes decrypts to the plaintext of those bytes' first `len`
pub unit_filled : (cipher : Cipher) (number len got : ℕ) (bytes buf unit : List ℕ) → length buf ≡ len → got ≡ len
    → take got buf ≡ take got bytes
    → unit ≡ sector_decrypted cipher.0 cipher.1 number buf → unit ≡ unit_plain cipher number (take len bytes)
unfolding unit_plain
unit_filled cipher number len got bytes buf unit long whole same is =
    let filled : buf ≡ take len bytes = sym (take_all len buf (omega arith)) ∙ (rw whole at same) in
    is ∙ ap (sector_decrypted cipher.0 cipher.1 number) filled

-- a list whose first n elements are `a`, with `b` in place of the rest
pub two_parts : (a rest b : List ℕ) (n : ℕ) → length a ≡ n
    → take n (a ++ rest) ++ (b ++ drop (length (a ++ rest) - n) (drop n (a ++ rest))) ≡ a ++ b
two_parts a rest b n long =
    let none : drop (length (a ++ rest) - n) (drop n (a ++ rest)) ≡ [] =
    drop_all (length (a ++ rest) - n) (drop n (a ++ rest)) (omega (arith, length-drop n (a ++ rest))) in
    ap (λ l. l ++ (b ++ drop (length (a ++ rest) - n) (drop n (a ++ rest)))) (take_at a rest n long)
    ∙ ap (λ l. a ++ l) (ap (λ l. b ++ l) none ∙ append-nil b)

-- a buffer was filled with the first bytes of a sector, and then with a piece after them
pub is_filled : (loaded len : ℕ) (prefix new old piece : List ℕ) → loaded ≡ min (length prefix) len → length old ≡ len
    → new ≡ take loaded prefix
    → length piece ≡ length (take (length (new ++ drop loaded old) - loaded) (drop loaded (new ++ drop loaded old)))
    → (put_mid loaded (length (new ++ drop loaded old) - loaded) (new ++ drop loaded old) piece
    ≡ take (min (length prefix) len) prefix ++ piece) × (length piece ≡ len - min (length prefix) len)
is_filled loaded len prefix new old piece is sized written rest =
    let long : length new ≡ loaded = ap length written ∙ length-take-le loaded prefix (omega arith) in
    let whole : length (new ++ drop loaded old) ≡ len =
    length-append new (drop loaded old) ∙ (omega (arith, length-drop loaded old, long)) in
    let behind = length-drop loaded (new ++ drop loaded old) in (
      two_parts new (drop loaded old) piece loaded long
          ∙ ap (λ l. l ++ piece) (written ∙ ap (λ n. take n prefix) is),
      rest
          ∙ length-take-le (length (new ++ drop loaded old) - loaded) (drop loaded (new ++ drop loaded old))
          (omega arith) ∙ (omega (arith, whole)),
    )

-- a sector that was filled with bytes of `prefix`, and then with those of a piece
module _ (len : ℕ) (prefix piece sector : List ℕ) (is : sector ≡ take (min (length prefix) len) prefix ++ piece)
    (rest : length piece ≡ len - min (length prefix) len) where
  first_len : length (take (min (length prefix) len) prefix) ≡ min (length prefix) len
  first_len = length-take-le (min (length prefix) len) prefix (omega arith)

  -- the sector starts with the bytes of `prefix`
  pub begins : BeginsWith prefix sector
  begins =
      let first = take (min (length prefix) len) prefix in
      let size : length sector ≡ len = ap length is ∙ length-append first piece ∙ (omega (arith, first_len)) in
      let cut : take (length sector) prefix ≡ first =
      ap (λ n. take n prefix) size ∙ sym (take_min len prefix) ∙ ap (λ n. take n prefix) (omega arith) in
      elim (cases_lt len (length prefix)) [
        | inl many ↦
            take_all (length prefix) sector (omega arith) ∙ is
            ∙ ap (λ l. first ++ l) (nil_from_length piece (omega arith)) ∙ append-nil first ∙ sym cut
        | inr few ↦
            ap (take (length prefix)) is ∙ take_at first piece (length prefix) (first_len ∙ (omega arith)) ∙ sym cut
      ]

  -- the sector continues with the bytes of the source
  pub filled_sector : (known : List ℕ) (left' : Option (List ℕ)) (n : ℕ) → n ≡ min (length piece) (length known)
      → take n piece ≡ take n known → ConsumedExactly known left' n → (loaded : ℕ) → loaded ≡ min (length prefix) len
      → FilledSector len prefix known left' sector (loaded + n)
  filled_sector known left' n all same consumption loaded is_loaded =
      let first = take (min (length prefix) len) prefix in
      let filled : take (min (length prefix) len + n) sector ≡ take (min (length prefix) len) prefix ++ take n known =
      ap (take (min (length prefix) len + n)) is
      ∙ ap (λ k. take (k + n) (first ++ piece)) (sym first_len) ∙ take-append-add first piece n
      ∙ ap (λ l. first ++ l) same in
      let count : n ≡ min (length prefix) len + n - length prefix = omega arith in
      subst (λ k. FilledSector len prefix known left' sector (k + n)) (sym is_loaded) (record {
        all = omega (arith, length-append prefix known);
        bytes = elim (cases_lt len (length prefix)) [
          | inl many ↦
              let none : n ≡ 0 = omega arith in
              filled
              ∙ rw none (append-nil first ∙ sym (take-append-le (min (length prefix) len) prefix known (omega arith))
              ∙ ap (λ k. take k (prefix ++ known)) (omega arith))
          | inr few ↦
              let whole : min (length prefix) len ≡ length prefix = omega arith in
              filled ∙ rw whole (ap (λ l. l ++ take n known) (take_all (length prefix) prefix (omega arith))
              ∙ sym (take-append-add prefix known n))
        ];
        consumption = subst (ConsumedExactly known left') count consumption;
      })

-- a sector that was forwarded from the source, with an empty `prefix`
module _ (cipher : Cipher) (number len : ℕ) (known : List ℕ) (left left' before after : Option (List ℕ)) where
  -- the write was aborted; the forwarded bytes are the next bytes of the source
  pub write_aborted_forwarded : (prefix : List ℕ) (written : ℕ) → length prefix ≡ 0 → written < len
      → Forwarded len (λ bytes. take written (unit_plain cipher number bytes)) left left' before after
      → left ≡ Some known → AbortsInSector cipher number len prefix known left' before after Write
  write_aborted_forwarded [] written none few (bytes, sized, consumed, appends) is =
      let whole : take len bytes ≡ bytes = take_all len bytes (omega arith) in
      let consumption = consumed-prefix left left' bytes len (omega arith) (rw whole consumed) known is in
      let all : len - 0 ≡ len = omega arith in
      let next : take len known ≡ bytes = sym consumption.1 ∙ whole in
      (rw all consumption.0, (written, few, rw next appends))
  write_aborted_forwarded (x ∷ prefix) written none few forwarded is = absurd (omega arith)
