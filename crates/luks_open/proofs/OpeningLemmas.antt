-- How opening the volume of an image ends, and what trying its key slots consumes and counts.
use Rattle.std.proofs.Common.{◌≡◌, ◌∙◌, ℕ, ◌⊎◌, inl, inr, List, [], Option, Some, Ok, Err, true, false, ap, refl}
use Rattle.std.proofs.Common.{Bool, min, sym, length, arith, ◌+◌, ◌<◌, ◌≤◌, ◌++◌, Result, take, drop}
use Rattle.std.proofs.Common.{length-append, length-take-le, subst, None}
use Rattle.std.specs.Prelude.{IsOk, ok_or}
use Rattle.std.proofs.lemmas.Bool.{cases_lt, le-ltb, lt-ltb}
use Rattle.std.proofs.lemmas.List.{length-take, take-append-drop}
use Rattle.std.proofs.Math.Seq.{take-append_seam}
use Rattle.luks_io.specs.Devices.{ConsumedExactly, ConsumedFewer}
use Rattle.luks_format.specs.Area.{IsStart}
use Rattle.luks_format.specs.declared.fault.HeaderFault.{HeaderFault}
use Rattle.luks_format.specs.declared.fault.HeaderFault.TheVariants.{Read as HeaderRead, Memory as HeaderMemory}
use Rattle.luks_format.specs.declared.segment.Segment.{Segment}
use Rattle.luks_header.specs.Header.{header_read_len}
use Rattle.luks_header.proofs.LoadingLemmas.{start_consumed}
use Rattle.luks_open.specs.Opening.{first_opening, key_material_end, opening_of, work_of}
use Rattle.luks_open.specs.declared.fault.OpenFault.{OpenFault}
use Rattle.luks_open.specs.declared.fault.OpenFault.TheVariants.{Memory, NoKey}
use Rattle.luks_open.specs.Fault.{aborts_opening, has_fault, is_untried}
use Rattle.luks_kdf.specs.Pbkdf2.{capped}
use Rattle.std.specs.Result.{result_map_both}
use Rattle.luks_open.specs.declared.fault.PassphraseFault.TheVariants.{TooLong, Read as PassphraseRead}
use Rattle.luks_open.specs.declared.fault.PassphraseFault.TheVariants.{Memory as PassphraseMemory}
use Rattle.luks_open.specs.declared.fault.VolumeFault.{VolumeFault}
use Rattle.luks_open.specs.declared.fault.VolumeFault.TheVariants.{Header as HeaderNotRead, KeyAreaCut, Passphrase}
use Rattle.luks_open.specs.declared.fault.VolumeFault.TheVariants.{Argon2Memory, Segment as SegmentRefused, Slots}
use Rattle.luks_open.proofs.LoadedLemmas.{opening_prefix, work_prefix}
use Rattle.luks_open.specs.declared.opening.Opened.{Opened}
use Rattle.luks_open.specs.declared.allowed.AllowedSlots.{AllowedSlots}
use Rattle.luks_open.proofs.VolumeLemmas.{header_read_len_within}
use Rattle.luks_open.proofs.VolumeLemmas.{volume_is}
use Rattle.luks_open.specs.Location.{reader_for}
use Rattle.luks_open.specs.declared.location.HeaderLocation.{HeaderLocation}
use Rattle.luks_open.specs.KeyFile.{NoKeyFileRead, max_key_file_len}
use Rattle.luks_open.specs.Volume.{FindsNoVolume, volume_by}
use Rattle.luks_open.specs.Volume.{Volume, VolumeOpening, opening_found}
use Rattle.luks_open.specs.Volume.{unlock_read_len, volume_opening_by, opening_after}
use Rattle.luks_open.specs.Volume.{CanBeTried, ConsumedUnless, ConsumesMaterial, CountsTrials, FoundIn, IsLoaded}
use Rattle.luks_open.specs.Volume.{OpeningMatches}
use Rattle.luks_open.specs.Volume.{IfRefused, TriesSlots, UnlessRefused, described, opened_of, opened_result}
use Rattle.luks_open.specs.declared.unlocked.UnlockedVolume.{UnlockedVolume}
use Rattle.luks_open.specs.declared.fault.PassphraseFault.{PassphraseFault}
use Rattle.luks_open.specs.declared.found.FoundVolume.{FoundVolume}

-- ---- bytes that were consumed, unless that was aborted

pub consumed_all : (aborted : Bool) (known : List ℕ) (left : Option (List ℕ)) (count : ℕ)
    → ConsumedExactly known left count → ConsumedUnless aborted known left count
consumed_all true known left count consumed = (count, omega arith, consumed)
consumed_all false known left count consumed = consumed

-- ---- opening a volume that was found

module _ (v : Volume) (image secret : List ℕ) where
  pub found_long : max_key_file_len < length secret → opening_found v image secret ≡ record {
    result = Err (Passphrase TooLong);
    consumed = header_read_len image;
    secret_consumed = max_key_file_len + 1;
  }
  unfolding opening_found
  found_long long = rw (lt-ltb max_key_file_len (length secret) long) refl

  pub found_cut : length secret ≤ max_key_file_len → length image < key_material_end v.order.entries
      → opening_found v image secret
      ≡ record { result = Err KeyAreaCut; consumed = length image; secret_consumed = length secret }
  unfolding opening_found
  found_cut short few =
      let allowed = le-ltb max_key_file_len (length secret) short in
      rw (allowed, lt-ltb (length image) (key_material_end v.order.entries) few) refl

  pub found_whole : length secret ≤ max_key_file_len → key_material_end v.order.entries ≤ length image
      → opening_found v image secret ≡ record {
        result = result_map_both (λ opened. (v.segment, opened)) Slots (opening_of v.order image secret);
        consumed = unlock_read_len image v;
        secret_consumed = length secret;
      }
  unfolding opening_found
  found_whole short enough =
      let allowed = le-ltb max_key_file_len (length secret) short in
      rw (allowed, le-ltb (length image) (key_material_end v.order.entries) enough) refl

  -- a passphrase that is not too long is consumed whole, and at least the bytes that can be loaded are consumed
  pub area_within : length secret ≤ max_key_file_len
      → (min (length image) (unlock_read_len image v) ≤ (opening_found v image secret).consumed)
      × ((opening_found v image secret).consumed ≤ unlock_read_len image v)
      × ((opening_found v image secret).secret_consumed ≡ length secret)
  area_within short = elim (cases_lt (length image) (key_material_end v.order.entries)) [
    | inl few ↦ rw (found_cut short few) (omega arith, omega arith, refl)
    | inr enough ↦ rw (found_whole short enough) (omega arith, omega arith, refl)
  ]

  -- at least the header is consumed and no byte after the last key material, and of the passphrase as much as is ever
  -- read of it
  pub found_within : (header_read_len image ≤ (opening_found v image secret).consumed)
      × ((opening_found v image secret).consumed ≤ unlock_read_len image v)
      × ((opening_found v image secret).secret_consumed ≡ min (length secret) (max_key_file_len + 1))
  found_within = elim (cases_lt max_key_file_len (length secret)) [
    | inl long ↦ rw (found_long long) (omega arith, omega arith, omega arith)
    | inr short ↦
        let all = area_within short in
        (omega (arith, all.0, header_read_len_within image), all.1, omega (arith, all.2))
  ]

-- the key slots of a volume can be tried
pub found_tried : (v : Volume) (image secret : List ℕ) → CanBeTried (opening_found v image secret).result
unfolding opening_of
found_tried v image secret = elim (cases_lt max_key_file_len (length secret)) [
  | inl long ↦ rw (found_long v image secret long) tt
  | inr short ↦ elim (cases_lt (length image) (key_material_end v.order.entries)) [
    | inl few ↦ rw (found_cut v image secret short few) tt
    | inr enough ↦ rw (found_whole v image secret short enough) (tried (first_opening v.order.entries image secret))
  ]
]
  where
    tried : (r : Option Opened)
        → CanBeTried {T = Segment × Opened}
        (result_map_both (λ opened. (v.segment, opened)) Slots (ok_or r (NoKey v.order.skipped)))
    tried (Some opened) = tt
    tried None = tt

module _ (image area' : List ℕ) (i : Option (List ℕ)) (start : IsStart image area' i) where
  image_length : length image ≡ length area' + length start.rest
  image_length = ap length start.is ∙ length-append area' start.rest

  -- if nothing remains, all of the image is loaded and was consumed
  area_whole : i ≡ Some [] → (length image ≡ length area') × ConsumedExactly image i (length image)
  area_whole emptied =
      let same : Some start.rest ≡ Some [] = sym start.behind ∙ emptied in
      let none : start.rest ≡ [] = cc in
      let all : length image ≡ length area' = image_length ∙ ap (λ rest. length area' + length rest) none
      ∙ omega arith in
      (all, rw all (start_consumed image area' i start))

  -- the loaded bytes are the image's first bytes, and no more were consumed
  area_loaded : (len : ℕ) → length area' ≡ len → (area' ≡ take len image) × ConsumedExactly image i len
  area_loaded len is = (
    sym (ap (λ n. take n image) (sym is) ∙ ap (take (length area')) start.is ∙ take-append_seam area' start.rest),
    subst (ConsumedExactly image i) is (start_consumed image area' i start),
  )

-- a fault of loading aborts opening
load_aborts : (fault : HeaderFault) → (fault ≡ HeaderRead) ⊎ (fault ≡ HeaderMemory)
    → aborts_opening (HeaderNotRead fault) ≡ true
load_aborts fault only = elim only [ inl read ↦ rw read refl | inr memory ↦ rw memory refl ]

-- ---- opening the volume of an image

module _ (location : HeaderLocation) (slots : AllowedSlots) (image pass : List ℕ) where
  abbrev opening : VolumeOpening
  opening = volume_opening_by (reader_for location) slots image pass

  pub opening_is : (r : Result Volume VolumeFault) → volume_by (reader_for location) slots image ≡ r
      → opening ≡ opening_after image pass r
  unfolding volume_opening_by
  opening_is r is = ap (opening_after image pass) is

  -- at least the header is consumed, and no more of the passphrase than there is
  pub opening_within : (header_read_len image ≤ opening.consumed) × (opening.secret_consumed ≤ length pass)
  unfolding volume_opening_by
  opening_within = after (volume_by (reader_for location) slots image)
    where
      after : (r : Result Volume VolumeFault) → (header_read_len image ≤ (opening_after image pass r).consumed)
          × ((opening_after image pass r).secret_consumed ≤ length pass)
      after (Ok v) =
          let within = found_within v image pass in
          (within.0, omega (arith, within.2))
      after (Err fault) = (omega arith, omega arith)

  -- the key slots of the image's volume can be tried, if it has one
  tried_if_found : IsOk (volume_by (reader_for location) slots image) → CanBeTried opening.result
  unfolding volume_opening_by
  tried_if_found = by (volume_by (reader_for location) slots image)
    where
      by : (r : Result Volume VolumeFault) → IsOk r → CanBeTried (opening_after image pass r).result
      by (Ok v) there = found_tried v image pass
      by (Err _) there = absurd cc

  -- no volume was found
  pub opens_unfound : (fault : VolumeFault) (left : Option (List ℕ))
      → FindsNoVolume (reader_for location) slots image left fault → OpeningMatches opening image (Err fault) left
  opens_unfound fault left finds = record {
    answer = λ never. sym (ap (λ (o : VolumeOpening). o.result) (opening_is (Err fault) (finds.none never)));
    memory = λ is. let same : fault ≡ Slots Memory = cc in tried_if_found (finds.memory same);
    argon2 = λ slot memory is. absurd (finds.no_argon2 slot memory
        (let same : fault ≡ Argon2Memory slot memory = cc in same));
    consumed = by (aborts_opening fault)
        (λ never. ap (λ (o : VolumeOpening). o.consumed) (opening_is (Err fault) (finds.none never))) finds.consumed;
  }
    where
      by : (b : Bool) → (b ≡ false → opening.consumed ≡ header_read_len image)
          → ConsumedUnless b image left (header_read_len image) → ConsumedUnless b image left opening.consumed
      by true is consumed = (consumed.0, omega (arith, consumed.1, opening_within.0), consumed.2)
      by false is consumed = rw (is refl) consumed

  -- a volume was found
  module _ (volume : FoundVolume) (left : Option (List ℕ)) (found : FoundIn location slots image volume left) where
    pub is_volume : volume_by (reader_for location) slots image ≡ Ok (described volume)
    is_volume =
        volume_is location slots image volume.header volume.segment volume.order found.header found.slots.segment
        found.slots.order

    pub opening_found_is : opening ≡ opening_found (described volume) image pass
    opening_found_is = opening_is (Ok (described volume)) is_volume

    -- the passphrase was not read
    pub opens_unread : (secret' : Option (List ℕ)) (fault : PassphraseFault) → NoKeyFileRead pass secret' fault
        → OpeningMatches opening image (Err (Passphrase fault)) left
        × ConsumedUnless (aborts_opening (Passphrase fault)) pass secret' opening.secret_consumed
    opens_unread secret' TooLong stop =
        rw (opening_found_is ∙ found_long (described volume) image pass stop.0) (
          record {
            answer = λ never. refl;
            memory = λ is. tt;
            argon2 =
                λ slot memory is. tt;
            consumed = found.consumed;
          },
          stop.1,
        )
    opens_unread secret' PassphraseMemory stop =
        let within = found_within (described volume) image pass in
        rw opening_found_is (
          record {
            answer = λ never. absurd cc;
            memory = λ is. absurd cc;
            argon2 = λ slot memory is. absurd cc;
            consumed = (_, within.0, found.consumed);
          },
          (stop.0, omega (arith, stop.1, within.2), stop.2),
        )
    opens_unread secret' PassphraseRead stop =
        let within = found_within (described volume) image pass in
        rw opening_found_is (
          record {
            answer = λ never. absurd cc;
            memory = λ is. absurd cc;
            argon2 = λ slot memory is. absurd cc;
            consumed = (_, within.0, found.consumed);
          },
          (stop.0, omega (arith, stop.1, within.2), stop.2),
        )

    -- further bytes of the image were loaded, up to the end of the last key material, or loading ended before that
    module _ (area' : List ℕ) (i : Option (List ℕ)) (result : Result UnlockedVolume VolumeFault)
        (consumes : ConsumesMaterial volume area' left i result) where
      abbrev areas_end : ℕ
      areas_end = key_material_end volume.order.entries

      -- the loaded bytes are the image's, and the others remain
      start : IsStart image area' i
      start = consumes.start image (record {
        rest = drop (header_read_len image) image;
        behind = found.consumed.left;
        is = sym (take-append-drop (header_read_len image) image)
            ∙ ap (λ bytes. bytes ++ drop (header_read_len image) image) (sym found.area);
      })

      -- not all key material was loaded
      module _ (few : length area' < areas_end) (short : length pass ≤ max_key_file_len) where
        opens_aborted : (fault : HeaderFault) → aborts_opening (HeaderNotRead fault) ≡ true
            → OpeningMatches opening image (Err (HeaderNotRead fault)) i
        opens_aborted fault aborted =
            let within = area_within (described volume) image pass short in
            let all = start_consumed image area' i start in
            rw opening_found_is (record {
              answer = λ never. absurd cc;
              memory = λ is. absurd cc;
              argon2 = λ slot memory is. absurd cc;
              consumed = rw aborted (length area', omega (arith, few, within.0, all.within), all);
            })

        opens_cut : result ≡ Err KeyAreaCut → OpeningMatches opening image (Err KeyAreaCut) i
        opens_cut cut =
            let all = area_whole image area' i start (consumes.cut cut _ found.consumed.left found.ended) in
            rw (opening_found_is ∙ found_cut (described volume) image pass short (omega (arith, all.0, few)))
            (record { answer = λ never. refl; memory = λ is. tt; argon2 = λ slot memory is. tt; consumed = all.1 })

      -- all of it was loaded
      module _ (enough : areas_end ≤ length area') where
        len : length area' ≡ unlock_read_len image (described volume)
        len =
            let prefix = ap length found.area
            ∙ length-take-le (header_read_len image) image (header_read_len_within image) in
            let kept = ap length consumes.kept in
            omega (arith, enough, kept, length-take (length volume.area.bytes) area', consumes.within, prefix)

        long : areas_end ≤ length image
        long = omega (arith, enough, image_length image area' i start)

        pub loaded_as : length pass ≤ max_key_file_len → IsLoaded opening image area'
        loaded_as short =
            rw (opening_found_is ∙ found_whole (described volume) image pass short long)
            (len, (area_loaded image area' i start _ len).0)

        opens_tried : length pass ≤ max_key_file_len → (r : Result Opened OpenFault)
            → opening_of volume.order area' pass ≡ r → (tried : Result UnlockedVolume VolumeFault)
            → opened_result tried ≡ result_map_both (λ opened. (volume.segment, opened)) Slots r
            → OpeningMatches opening image tried i
        opens_tried short r opens tried is =
            let all = area_loaded image area' i start _ len in
            let whole : opening_of volume.order image pass ≡ r =
            sym (opening_prefix volume.order (unlock_read_len image (described volume)) image pass (omega arith))
            ∙ ap (λ (bytes : List ℕ). opening_of volume.order bytes pass) (sym all.0) ∙ opens in
            let as_tried = opening_found_is ∙ found_whole (described volume) image pass short long in
            let can = subst (λ (o : VolumeOpening). CanBeTried o.result) as_tried (tried_if_found (rw is_volume refl))
            in
            rw as_tried (record {
              answer = λ never. is
                  ∙ ap (result_map_both (λ opened. (volume.segment, opened)) Slots) (sym whole);
              memory = λ ran_out. can;
              argon2 = λ slot memory ran_out. can;
              consumed = consumed_all (has_fault aborts_opening tried) image i _ all.1;
            })

        -- the key slots can be tried, and memory for one was refused
        opens_refused : length pass ≤ max_key_file_len → (slot memory : ℕ)
            → OpeningMatches opening image (Err (Argon2Memory slot memory)) i
        opens_refused short slot memory =
            let all = area_loaded image area' i start _ len in
            let as_tried = opening_found_is ∙ found_whole (described volume) image pass short long in
            let can = subst (λ (o : VolumeOpening). CanBeTried o.result) as_tried (tried_if_found (rw is_volume refl))
            in
            rw as_tried (record {
              answer = λ never. absurd cc;
              memory = λ ran_out. can;
              argon2 = λ its_slot its_memory ran_out. can;
              consumed = consumed_all true image i _ all.1;
            })

      -- opening the volume ended as specified
      pub opens_as : TriesSlots (described volume) area' pass result → length pass ≤ max_key_file_len
          → OpeningMatches opening image result i
      opens_as tries short = by result refl tries
        where
          by : (r : Result UnlockedVolume VolumeFault) → result ≡ r → TriesSlots (described volume) area' pass r
              → OpeningMatches opening image r i
          by (Ok opened) is tries =
              opens_tried tries.0 short (Ok (opened_of opened)) tries.2 (Ok opened) (rw tries.1 refl)
          by (Err (Slots fault)) is tries =
              opens_tried tries.0 short (Err fault) tries.1 (Err (Slots fault)) refl
          by (Err (Argon2Memory slot memory)) is enough = opens_refused enough short slot memory
          by (Err KeyAreaCut) is few = opens_cut few short is
          by (Err (HeaderNotRead fault)) is tries = opens_aborted tries.0 short fault (load_aborts fault tries.1)
          by (Err _) is never = absurd never

      -- the image was consumed up to the end of the last key material, and the count of work raised by what trying
      -- costs; or not as far, and the count is what it was
      pub counts_of_trials : (work work' : ℕ) → CountsTrials volume.order area' pass result work work'
          → (ConsumedExactly image i (unlock_read_len image (described volume))
          × (work' ≡ capped (work + work_of volume.order image pass)))
          ⊎ (ConsumedFewer image i (unlock_read_len image (described volume))
          × (has_fault is_untried result ≡ true) × (work' ≡ work))
      counts_of_trials work work' counts = elim counts [
        | inl tried ↦
            let all = area_loaded image area' i start _ (len tried.0) in
            inl (
              all.1,
              tried.1 ∙ ap (λ (cost : ℕ). capped (work + cost))
                  (ap (λ (bytes : List ℕ). work_of volume.order bytes pass) all.0
                  ∙ work_prefix volume.order (unlock_read_len image (described volume)) image pass (omega arith)),
            )
        | inr few ↦
            inr ((length area', omega (arith, few.0), start_consumed image area' i start), few.1, few.2)
      ]

-- ---- memory for Argon2

-- what holds unless memory for Argon2 was refused does, if it cannot be refused
pub counts_given : {T : Type 0} (result : Result T VolumeFault) (Counts : Type 0) (Refused : ℕ → ℕ → Type 0)
    → ((slot memory : ℕ) → Refused slot memory → ⊥) → IfRefused result Refused → UnlessRefused result Counts → Counts
counts_given (Err (Argon2Memory slot memory)) Counts Refused never refused counts = absurd (never slot memory refused)
counts_given (Ok _) Counts Refused never refused counts = counts
counts_given (Err (HeaderNotRead _)) Counts Refused never refused counts = counts
counts_given (Err (SegmentRefused _)) Counts Refused never refused counts = counts
counts_given (Err (Passphrase _)) Counts Refused never refused counts = counts
counts_given (Err KeyAreaCut) Counts Refused never refused counts = counts
counts_given (Err (Slots _)) Counts Refused never refused counts = counts
