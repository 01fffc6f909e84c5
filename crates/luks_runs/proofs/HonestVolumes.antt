-- Honestly sealed volumes: what is stored decrypts to what was sealed, each passphrase opens its key slot, and
-- `luksCat` writes the plaintext.
use Rattle.std.proofs.Common.{◌≡◌, ℕ, ◌%◌, ◌^◌, List, length, ◌∙◌, ◌+◌, ◌*◌, ◌/◌, ◌<◌, ◌≤◌, take, drop, refl, subst}
use Rattle.std.proofs.Common.{sym, ap, arith, length-drop, ◌-◌, Option, None, Some, Ok, true, [], ◌∷◌, ◌++◌}
use Rattle.std.specs.Int.{to_le_bytes, w128}
use Rattle.std.specs.Prelude.{ok_or}
use Rattle.std.proofs.Math.Nat.{div-mul_cancel, dvd_of_mod-eq-zero}
use Rattle.std.proofs.lemmas.List.{length-take-le, take_all}
use Rattle.std.proofs.lemmas.Bool.{le-ltb}
use Rattle.std.specs.List.{AllByRecursion, Contains}
use Rattle.std.proofs.lemmas.Bool.Decides.{nat_tests}
use Rattle.std.proofs.lemmas.Slice.Eq.{bytes_eq-Decides}
use Rattle.std.proofs.lemmas.List.Elements.{All-nil, recursion_from_All}
use Rattle.luks_aes.specs.Bytes.{IsBytes}
use Rattle.luks_aes.proofs.ColumnLemmas.{encrypted_state, bytes_drop, bytes_take}
use Rattle.luks_kdf.specs.declared.hash.Hash.TheVariants.{Sha256}
use Rattle.luks_kdf.specs.Stripes.{merged}
use Rattle.luks_kdf.proofs.StripesLemmas.{merged_split}
use Rattle.luks_kdf.specs.Pbkdf2.{derived_key}
use Rattle.luks_cipher.specs.Sector.{essiv_iv, plain64_iv, sector_decrypted, sector_encrypted, Cipher}
use Rattle.luks_cipher.specs.Sector.{is_mode_key_length}
use Rattle.luks_cipher.specs.declared.mode.Mode.{Mode}
use Rattle.luks_cipher.specs.declared.mode.Mode.TheVariants.{XtsPlain64, XtsPlain, CbcEssivSha256, CbcPlain64}
use Rattle.luks_cipher.proofs.UnitsUndone.{cbc_decrypted-cbc_encrypted, le_state, xts_decrypted-xts_encrypted}
use Rattle.luks_cipher.proofs.UnitsUndone.{joined_units}
use Rattle.luks_kdf.proofs.BytesLemmas.{joined_same}
use Rattle.luks_kdf.specs.Bytes.{joined}
use Rattle.luks_cipher.proofs.ModeLemmas.{key_length_of_mode}
use Rattle.luks_format.specs.Fields.{at}
use Rattle.luks_format.specs.declared.segment.Segment.{Segment}
use Rattle.luks_format.proofs.SectorLemmas.{sector_blocks}
use Rattle.luks_format.specs.declared.digest.KeyDigest.{KeyDigest}
use Rattle.luks_format.specs.declared.slot.Slot.{Slot}
use Rattle.luks_header.specs.HeaderSegment.{segment_of}
use Rattle.luks_header.specs.declared.header.Header.{Header}
use Rattle.luks_format.specs.Derivation.{without_argon2}
use Rattle.luks_format.specs.declared.derivation.Limits.{Limits}
use Rattle.luks_header.proofs.KnownLemmas.{is_attached, known_usable, same_slot}
use Rattle.luks_open.specs.Candidate.{decrypted_material, material_sector, recovered, candidate_of, matches_digest}
use Rattle.luks_open.specs.Opening.{first_opening, slot_key, opening_of}
use Rattle.luks_open.specs.declared.entry.Entry.{Entry}
use Rattle.luks_open.specs.Opening.{key_material_end, order_within}
use Rattle.luks_open.specs.declared.fault.OpenFault.TheVariants.{NoKey}
use Rattle.luks_open.specs.declared.opening.Opened.{Opened}
use Rattle.luks_open.proofs.SameOrderLemmas.{usable_with_argon2}
use Rattle.luks_open.proofs.CallerLemmas.{All-order, IsOf, key_areas_before_payload, opened_or}
use Rattle.luks_payload.proofs.SectorLemmas.{one_more_fits}
use Rattle.luks_payload.specs.Plain.{ending_of, ending_of_len, plain_of, sector_len, sector_plaintext, unit_number}
use Rattle.luks_payload.specs.Plain.{unit_plain, payload_bytes}
use Rattle.luks_payload.specs.declared.state.Step.TheVariants.{End}
use Rattle.luks_volume.proofs.MaterialLemmas.{derived_bytes, hash_bytes}
use Rattle.luks_volume.specs.Sealed.{EndsWith, GivesKey, IsDigestOf, IsStoredEncrypted, Sealed, SealsKey, SealsPlain}
use Rattle.luks_report.specs.Faults.{message_at_end}
use Rattle.luks_report.specs.declared.message.Message.TheVariants.{Done}
use Rattle.luks_open.specs.declared.allowed.AllowedSlots.{AllowedSlots}
use Rattle.luks_runs.specs.Run.{Outcome}
use Rattle.luks_open.specs.declared.location.HeaderLocation.TheVariants.{Attached}
use Rattle.luks_open.specs.KeyFile.{max_key_file_len}
use Rattle.luks_runs.specs.Honest.{GivesNoOther, OpensHonest}
use Rattle.luks_open.specs.Volume.{Volume, unlock_read_len}
use Rattle.luks_runs.specs.VolumeOutcome.{outcome_after, outcome_by, payload_outcome, volume_outcome}
use Rattle.luks_runs.specs.VolumeOutcome.{volume_outcome_by}
use Rattle.std.specs.Result.{result_map_both}
use Rattle.luks_open.specs.declared.fault.VolumeFault.TheVariants.{Slots}
use Rattle.luks_open.proofs.OpeningLemmas.{found_whole, opening_is}
use Rattle.luks_open.proofs.VolumeLemmas.{volume_is}

-- ---- decryption of a sector undoes its encryption, in every mode

sector_decrypted-sector_encrypted : (mode : Mode) (key : List ℕ) (number : ℕ) (sector : List ℕ) → IsBytes key
    → IsBytes sector → length sector % 16 ≡ 0
    → sector_decrypted mode key number (sector_encrypted mode key number sector) ≡ sector
sector_decrypted-sector_encrypted XtsPlain64 key number sector keys all whole =
    xts_decrypted-xts_encrypted key number sector keys all whole
sector_decrypted-sector_encrypted XtsPlain key number sector keys all whole =
    xts_decrypted-xts_encrypted key (number % 2 ^ 32) sector keys all whole
sector_decrypted-sector_encrypted CbcEssivSha256 key number sector keys all whole =
    cbc_decrypted-cbc_encrypted key (essiv_iv key number) sector keys
    (encrypted_state _ (to_le_bytes w128 number) (hash_bytes Sha256 key) (le_state number)) all whole
sector_decrypted-sector_encrypted CbcPlain64 key number sector keys all whole =
    cbc_decrypted-cbc_encrypted key (plain64_iv number) sector keys (le_state number) all whole

-- ---- bytes that are stored encrypted are what the data units decrypt to

module _ (cipher : Cipher) (number : ℕ → ℕ) (size offset : ℕ) (plain image : List ℕ)
    (is_stored : IsStoredEncrypted cipher number size offset plain image) (keys : IsBytes cipher.1)
    (blocks : size % 16 ≡ 0) where
  -- each data unit of the image decrypts to that part of the plaintext, and all together to the whole plaintext
  units_undone : (unit : ℕ → List ℕ)
      → ((i : ℕ) → unit i ≡ sector_decrypted cipher.0 cipher.1 (number i) (at (offset + i * size) size image))
      → joined unit (length plain / size) ≡ plain
  units_undone unit is =
      let all : length plain / size * size ≡ length plain =
      div-mul_cancel size (dvd_of_mod-eq-zero size is_stored.whole) in
      let each : (i : ℕ) → i < length plain / size → unit i ≡ at (i * size) size plain = λ i below.
      let inside = one_more_fits i (length plain) size below in
      let long = length-take-le size (drop (i * size) plain) (omega (arith, length-drop (i * size) plain)) in
      is i ∙ ap (sector_decrypted cipher.0 cipher.1 (number i)) (is_stored.units i below)
      ∙ sector_decrypted-sector_encrypted cipher.0 cipher.1 (number i) (at (i * size) size plain) keys
      (bytes_take size (drop (i * size) plain) (bytes_drop (i * size) plain is_stored.bytes))
      (ap (λ n. n % 16) long ∙ blocks) in
      joined_same unit (λ i. at (i * size) size plain) (length plain / size) each
      ∙ joined_units plain size (length plain / size) ∙ take_all (length plain / size * size) plain (omega arith)

-- ---- the payload is the plaintext, and it is whole

module _ (offset : ℕ) (plain image : List ℕ) (there : offset + length plain ≤ length image) where
  -- the payload is as long as the plaintext
  all_plain : (size : Option ℕ) → EndsWith size plain (offset + length plain) image
      → payload_bytes size (length image - offset) ≡ length plain
  all_plain None ends = omega arith
  all_plain (Some size) ends = omega arith

  -- the payload ends without a fault if the plaintext is whole sectors
  ends_without_fault : (size : Option ℕ) (sector : ℕ) → EndsWith size plain (offset + length plain) image
      → length plain % sector ≡ 0 → ending_of_len size sector (length image - offset) ≡ Ok End
  ends_without_fault None sector ends whole =
      let all : length image - offset ≡ length plain = omega arith in
      let none : (length image - offset) % sector ≡ 0 = ap (λ n. n % sector) all ∙ whole in
      rw none refl
  ends_without_fault (Some size) sector ends whole =
      rw (le-ltb (length image - offset) size (omega arith)) refl

module _ (segment : Segment) (image key plain : List ℕ) (seals : SealsPlain segment image key plain) where
  plain_again : IsBytes key → plain_of segment (segment.mode, key) image ≡ plain
  unfolding unit_plain
  plain_again keys =
      ap (λ n. joined (sector_plaintext segment (segment.mode, key) image) (n / sector_len segment))
      (all_plain segment.offset plain image seals.is_stored.there segment.size seals.ends)
      ∙ units_undone (segment.mode, key) (unit_number segment) (sector_len segment) segment.offset plain image
      seals.is_stored keys (sector_blocks segment.sector_size).blocks (sector_plaintext segment (segment.mode, key)
      image) (λ i. refl)

  ending_again : ending_of segment image ≡ Ok End
  ending_again =
      rw (le-ltb (length image) segment.offset (omega (arith, seals.is_stored.there)))
      (ends_without_fault segment.offset plain image seals.is_stored.there segment.size (sector_len segment) seals.ends
      seals.is_stored.whole)

-- ---- one key slot

-- a key whose length a mode allows is not empty
some_key : (mode : Mode) (n : ℕ) → is_mode_key_length mode n ≡ true → 0 < n
some_key mode n is = let known = key_length_of_mode mode n is in grind (arith, nat_tests)

module _ (passphrase key image : List ℕ) where
  -- the key slot's candidate is the key that its material was made of
  candidate_again : (slot : Slot) → 0 < length key → GivesKey slot.parts passphrase key image
      → candidate_of slot image passphrase ≡ Some key
  unfolding candidate_of recovered decrypted_material
  candidate_again slot some gives =
      let parts = slot.parts in
      let made = gives.is_material in
      let cipher : Cipher =
      (gives.mode, derived_key gives.kdf passphrase parts.salt gives.iterations parts.area_key_bytes) in
      let keys = derived_bytes gives.kdf passphrase parts.salt gives.iterations parts.area_key_bytes in
      let sector = material_sector cipher image parts.area_offset in
      let sectors = units_undone cipher (λ i. i) 512 parts.area_offset gives.material image gives.is_stored keys refl
      sector (λ i. let same : parts.area_offset + 512 * i ≡ parts.area_offset + i * 512 = omega arith in
      ap (λ offset. sector_decrypted cipher.0 cipher.1 i (at offset 512 image)) same) in
      let all = ap (λ n. joined sector (n / 512)) (sym made.len) ∙ sectors in
      let key_is : recovered gives.af cipher image parts.area_offset (length key) parts.stripes ≡ key =
      ap (λ (bytes : List ℕ). merged gives.af (length key) (take (length key * parts.stripes) bytes)) all
      ∙ merged_split gives.af made.random key (take (length key * parts.stripes) gives.material) some made.split in
      rw (gives.is_kdf, gives.is_af, gives.is_mode, gives.key_bytes) (ap Some key_is)

  -- the key matches its digest
  matches_again : (digest : KeyDigest) → IsDigestOf digest key → matches_digest digest key ≡ true
  unfolding matches_digest
  matches_again digest is =
      let parts = digest.parts in
      rw is.is_hash ((bytes_eq-Decides (derived_key is.hash key parts.salt parts.iterations (length parts.value))
      parts.value).1 (sym is.value))

  -- a sealed key slot opens under its passphrase and gives the key
  key_again : (header : Header) (segment : Segment) (limits : Limits) (entry : Entry)
      → segment_of header ≡ Ok segment → IsOf header limits entry
      → SealsKey header image key entry.number passphrase → slot_key entry image passphrase ≡ Some key
  unfolding slot_key
  key_again header segment limits entry is_segment is seals =
      let same : entry.slot ≡ seals.slot =
      same_slot header limits (without_argon2 None) entry.number entry.slot seals.slot is.usable
      seals.usable in
      let known = known_usable header segment (without_argon2 None) entry.number seals.slot is_segment seals.usable in
      let some = rw seals.gives.key_bytes at (some_key segment.mode seals.slot.parts.key_bytes known.volume_key) in
      let candidate = candidate_again seals.slot some seals.gives in
      rw (same, candidate, matches_again seals.slot.digest seals.digest_of_key) refl

-- ---- the first key slot that opens

-- if no key slot before one that gives the key gives another key, the first key slot that opens gives that key
first_again : (before : List Entry) (entry : Entry) (after : List Entry) (image passphrase key : List ℕ)
    → AllByRecursion (GivesNoOther image passphrase key) before → slot_key entry image passphrase ≡ Some key
    → (number : ℕ) × (first_opening (before ++ entry ∷ after) image passphrase
    ≡ Some (record { slot = number; key = key }))
unfolding first_opening
first_again [] entry after image passphrase key no_other gives =
    (entry.number, ap (λ (k : Option (List ℕ)). opened_or entry.number k (first_opening after image passphrase)) gives)
first_again (other ∷ before) entry after image passphrase key no_other gives =
    of_first (first_again before entry after image passphrase key no_other.1 gives)
    (slot_key other image passphrase) refl
  where
    of_first : ((number : ℕ) × (first_opening (before ++ entry ∷ after) image passphrase
        ≡ Some (record { slot = number; key = key })))
        → (found : Option (List ℕ)) → slot_key other image passphrase ≡ found
        → (number : ℕ) × (first_opening (other ∷ before ++ entry ∷ after) image passphrase
        ≡ Some (record { slot = number; key = key }))
    of_first rest None e = (rest.0, rw e rest.1)
    of_first rest (Some found) e = (other.number, rw (e, no_other.0 found e) refl)

-- ---- the volume

-- a key slot with a passphrase of a sealed volume is sealed with that passphrase
sealed_with : (image key plain passphrase : List ℕ) (passphrases : List (ℕ × List ℕ)) (number : ℕ)
    (sealed : Sealed image passphrases key plain) → Contains passphrases (number, passphrase)
    → SealsKey sealed.header image key number passphrase
sealed_with image key plain passphrase passphrases number sealed is =
    subst (λ (slot : ℕ × List ℕ). SealsKey sealed.header image key slot.0 slot.1) is.2
    (sealed.slots is.0 (number, passphrase) is.1)

-- a property of all elements of a list holds for one in its middle
in_the_middle : {X : Type 0} (P : X → Type 0) (before : List X) (x : X) (after : List X)
    → AllByRecursion P (before ++ x ∷ after) → P x
in_the_middle P [] x after all = all.0
in_the_middle P (y ∷ before) x after all = in_the_middle P before x after all.1

module _ (slots : AllowedSlots) (image passphrase plain : List ℕ)
    (honest : OpensHonest slots image passphrase plain) where
  abbrev volume : Volume
  volume = record { header = honest.sealed.header; segment = honest.sealed.segment; order = honest.order }

  -- the passphrase opens the volume with the volume key
  opens : (number : ℕ) × (opening_of honest.order image passphrase ≡ Ok (record { slot = number; key = honest.key }))
  unfolding opening_of
  opens =
      let sealed = honest.sealed in
      let first = honest.first in
      let limits = slots.limits in
      let tried = All-order sealed.header slots.named limits honest.order honest.is_order in
      let is = in_the_middle (IsOf sealed.header limits) first.before first.entry first.after
      (subst (AllByRecursion (IsOf sealed.header limits)) first.are tried) in
      let seals = sealed_with image honest.key plain passphrase honest.passphrases honest.number sealed
      honest.is_passphrase in
      let gives = key_again passphrase honest.key image sealed.header sealed.segment slots.limits first.entry
      sealed.is_segment is
      (subst (λ (n : ℕ). SealsKey sealed.header image honest.key n passphrase) (sym first.is_number) seals) in
      let found = first_again first.before first.entry first.after image passphrase honest.key
      (recursion_from_All (GivesNoOther image passphrase honest.key) first.before first.no_other) gives in (
        found.0,
        ap (λ (entries : List Entry). ok_or (first_opening entries image passphrase) (NoKey honest.order.skipped))
            first.are ∙ ap (λ (opened : Option Opened). ok_or opened (NoKey honest.order.skipped)) found.1,
      )

  opened_is : (number : ℕ) × (volume_outcome (payload_outcome Attached image passphrase) slots image passphrase
      ≡ payload_outcome Attached image passphrase honest.sealed.segment (record { slot = number; key = honest.key })
      (unlock_read_len image volume))
  unfolding volume_outcome_by
  opened_is =
      let sealed = honest.sealed in
      let before = key_areas_before_payload sealed.header sealed.segment slots.named
      slots.limits honest.order
      (is_attached image sealed.header sealed.is_header) sealed.is_segment honest.is_order in
      let within : key_material_end honest.order.entries ≤ length image =
      omega (arith, before, sealed.payload.is_stored.there) in
      let there = volume_is Attached slots image sealed.header sealed.segment honest.order sealed.is_header
      sealed.is_segment honest.is_order in
      let cat = payload_outcome Attached image passphrase in (
        opens.0,
        ap (outcome_after cat) (opening_is Attached slots image passphrase (Ok volume) there
            ∙ found_whole volume image passphrase honest.short within)
            ∙ ap (λ r. outcome_by cat (unlock_read_len image volume) (length passphrase)
            (result_map_both (λ opened. (sealed.segment, opened)) Slots r)) opens.1,
      )

  -- `luksCat` writes the plaintext and succeeds
  pub unsealed : ((volume_outcome (payload_outcome Attached image passphrase) slots image passphrase).output ≡ plain)
      × ((volume_outcome (payload_outcome Attached image passphrase) slots image passphrase).message ≡ Done)
  unsealed =
      let sealed = honest.sealed in (
        ap (λ (out : Outcome). out.output) opened_is.1
            ∙ plain_again sealed.segment image honest.key plain sealed.payload sealed.key_bytes,
        ap (λ (out : Outcome). out.message) opened_is.1
            ∙ ap message_at_end (ending_again sealed.segment image honest.key plain sealed.payload),
      )

-- a sealed volume is honest for a passphrase of the named key slot, which is no longer than a key file may be, if there
-- is no limit on iterations
pub named_is_honest : (slots : AllowedSlots) (image passphrase plain key : List ℕ) (passphrases : List (ℕ × List ℕ))
    (number : ℕ) → Sealed image passphrases key plain → Contains passphrases (number, passphrase)
    → length passphrase ≤ max_key_file_len → slots.named ≡ Some number
    → slots.limits.max_iterations ≡ None
    → OpensHonest slots image passphrase plain
unfolding order_within
named_is_honest slots image passphrase plain key passphrases number sealed is short named unlimited =
    let seals = sealed_with image key plain passphrase passphrases number sealed is in
    let usable = usable_with_argon2 sealed.header slots.limits number seals.slot (rw unlimited seals.usable) in
    let tried : Entry = record { number = number; slot = seals.slot } in
    record {
      passphrases = passphrases;
      key = key;
      sealed = sealed;
      number = number;
      is_passphrase = is;
      short = short;
      order = record { entries = tried ∷ []; skipped = [] };
      is_order = rw (named, usable) refl;
      first = record {
        before = [];
        entry = tried;
        after = [];
        are = refl;
        is_number = refl;
        no_other = All-nil (GivesNoOther image passphrase key);
      };
    }
