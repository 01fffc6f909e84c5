-- How the commands on volumes end if their volume is not opened, and what holds if it is.
use Rattle.std.proofs.Common.{◌≡◌, ℕ, ◌+◌, ◌-◌, ◌*◌, ◌/◌, ◌≤◌, ◌⊎◌, inl, inr, Bool, List, Option, Some, Result, Ok, Err}
use Rattle.std.proofs.Common.{◌∙◌, ap, sym, refl, length, max, arith, false, true, is_err}
use Rattle.std.specs.Prelude.{IsOk, MatchBool}
use Rattle.std.specs.Result.{result_map_both}
use Rattle.std.proofs.Math.Nat.{zero-div}
use Rattle.luks_header.specs.Header.{header_read_len, header_of}
use Rattle.luks_header.proofs.KnownLemmas.{is_attached}
use Rattle.luks_format.specs.declared.segment.Segment.{Segment}
use Rattle.luks_open.proofs.CallerLemmas.{key_areas_before_payload}
use Rattle.luks_open.specs.Fault.{aborts_opening, has_fault, is_read_failure, is_untried}
use Rattle.luks_kdf.specs.Pbkdf2.{capped}
use Rattle.luks_open.specs.Opening.{OrderModel, order_within, work_of}
use Rattle.luks_open.specs.declared.fault.OpenFault.{OpenFault}
use Rattle.luks_open.specs.declared.fault.PassphraseFault.{PassphraseFault}
use Rattle.luks_open.specs.declared.fault.VolumeFault.{VolumeFault}
use Rattle.luks_open.specs.declared.fault.VolumeFault.TheVariants.{Passphrase, Slots}
use Rattle.luks_io.proofs.EffectLemmas.{appended-none, consumed-none}
use Rattle.luks_io.specs.Devices.{Appended, ConsumedExactly, counted}
use Rattle.luks_payload.specs.Plain.{sector_len}
use Rattle.luks_report.specs.Faults.{message_for_volume}
use Rattle.luks_report.specs.declared.message.Message.{Message}
use Rattle.luks_report.specs.declared.message.Message.TheVariants.{OutOfMemory, ReadFailed, WriteFailed}
use Rattle.luks_open.specs.declared.allowed.AllowedSlots.{AllowedSlots}
use Rattle.luks_runs.proofs.RunLemmas.{aborted_unwritten}
use Rattle.luks_open.proofs.OpeningLemmas.{area_within, consumed_all, found_within, is_volume}
use Rattle.luks_runs.proofs.OutcomeLemmas.{opening_consumed}
use Rattle.luks_open.proofs.OpeningLemmas.{opening_found_is, opening_is, opens_unfound}
use Rattle.luks_open.proofs.OpeningLemmas.{counts_of_trials, loaded_as, opens_as, opens_unread}
use Rattle.luks_runs.proofs.OutcomeLemmas.{aborted_untried, message_says}
use Rattle.luks_open.proofs.VolumeLemmas.{volume_with}
use Rattle.luks_open.specs.KeyFile.{NoKeyFileRead, max_key_file_len}
use Rattle.luks_open.specs.Location.{HeaderReader, reader_for}
use Rattle.luks_runs.specs.Run.{Aborted, Completed, Consumed, EffectsOf, IsPrefixLen, aborts}
use Rattle.luks_runs.specs.Run.{is_run_read_failure}
use Rattle.luks_open.specs.Volume.{ConsumedUnless, ConsumesMaterial, CountsTrials, FindsNoVolume, FoundIn}
use Rattle.luks_open.specs.Volume.{HasSegmentBy, MayRunOut, OpeningMatches, TriesSlots, VolumeOpening}
use Rattle.luks_runs.specs.VolumeOutcome.{OpeningMessage}
use Rattle.luks_open.specs.Volume.{described, opened_of}
use Rattle.luks_runs.specs.VolumeOutcome.{ends_untried}
use Rattle.luks_open.specs.Volume.{opening_after, volume_by, volume_opening_by}
use Rattle.luks_runs.specs.VolumeOutcome.{outcome_after, outcome_by}
use Rattle.luks_open.specs.Volume.{unlock_read_len}
use Rattle.luks_runs.specs.VolumeOutcome.{volume_outcome_by}
use Rattle.luks_open.specs.declared.found.FoundVolume.{FoundVolume}
use Rattle.luks_open.specs.declared.location.HeaderLocation.{HeaderLocation}
use Rattle.luks_open.specs.declared.location.HeaderLocation.TheVariants.{Attached, Detached}
use Rattle.luks_open.specs.declared.unlocked.UnlockedVolume.{UnlockedVolume}
use Rattle.luks_commands.specs.Headline.{CountsTried, EndsUntried, PromptCat, PromptForwarding, AbortedOpening}
use Rattle.luks_commands.specs.Headline.{PromptPayload, Trial}
use Rattle.luks_commands.specs.Unlocking.{EndsLocked, Unlocking, Unlocks}

-- opening a volume from an image and a key file, of which these bytes remained
abbrev pub unlocking : HeaderLocation → AllowedSlots → List ℕ → List ℕ → Option (List ℕ) → Option (List ℕ) → Unlocking
unlocking location slots image secret image' secret' = record {
  location = location;
  slots = slots;
  image = image;
  image' = image';
  secret = secret;
  secret' = secret';
}

-- ---- promptness: how much of the image a run on a volume consumed before it was aborted

pub same_segment_by : (read : HeaderReader) (image : List ℕ) (s t : Segment) → HasSegmentBy read image s
    → HasSegmentBy read image t → t ≡ s
same_segment_by read image s t (header, found, is_segment) (other, found', is_segment') = cc

-- there are no sectors before the payload's start
no_sectors_before : (segment : Segment) (a : ℕ) → a ≤ segment.offset
    → 0 ≡ (a - segment.offset) / sector_len segment * sector_len segment
no_sectors_before segment a few =
    let none : a - segment.offset ≡ 0 = omega arith in rw (none, zero-div (sector_len segment)) (omega arith)

-- nothing was consumed past the header's end or the payload's start, whichever comes later
prompt_early : (segment : Segment) (header_len : ℕ) (message : Message) (consumed : ℕ)
    → consumed ≤ max header_len segment.offset → PromptForwarding segment header_len message consumed 0
prompt_early segment header_len ReadFailed consumed few = λ is_past_header. elim is_past_header [
  | inl before ↦ no_sectors_before segment consumed (omega arith)
  | inr past ↦ no_sectors_before segment consumed (omega arith)
]
prompt_early segment header_len WriteFailed consumed few = omega arith
prompt_early segment header_len _ consumed few = tt

-- opening a volume with an attached header consumes nothing past the header's end or the payload's start
before_payload : (slots : AllowedSlots) (image pass : List ℕ) (segment : Segment) → HasSegmentBy header_of image segment
    → (volume_opening_by header_of slots image pass).consumed ≤ max (header_read_len image) segment.offset
unfolding volume_opening_by volume_by
before_payload slots image pass segment (header, found, is_segment) =
    rw (found, is_segment) (by (order_within header slots.named slots.limits) refl)
  where
    by : (r : Result OrderModel OpenFault) → order_within header slots.named slots.limits ≡ r
        → (opening_after image pass (result_map_both (volume_with header segment) Slots r)).consumed
        ≤ max (header_read_len image) segment.offset
    by (Ok order) ordered =
        let few = key_areas_before_payload header segment slots.named slots.limits order
        (is_attached image header found) is_segment ordered in
        omega (arith, few, (found_within (volume_with header segment order) image pass).1)
    by (Err fault) ordered = omega arith

no_further : (location : HeaderLocation) (slots : AllowedSlots) (image pass : List ℕ) (segment : Segment)
    → location ≡ Attached → HasSegmentBy (reader_for location) image segment
    → (volume_opening_by (reader_for location) slots image pass).consumed
    ≤ max (header_read_len image) segment.offset
no_further Attached slots image pass segment attached has = before_payload slots image pass segment has
no_further Detached slots image pass segment attached has = absurd cc

-- a run that consumed no more than opening its volume does
prompt_opening : (location : HeaderLocation) (slots : AllowedSlots) (image pass : List ℕ) (message : Message) (a b : ℕ)
    → a ≤ (volume_opening_by (reader_for location) slots image pass).consumed
    → PromptPayload location image message (record { input = a; payload = 0; secret = b }) 0
prompt_opening Attached slots image pass message a b few = λ segment has.
    prompt_early segment (header_read_len image) message a
    (omega (arith, few, before_payload slots image pass segment has))
prompt_opening Detached slots image pass message a b few =
    λ segment has. prompt_early segment 0 message 0 (omega arith)

-- if memory ran out, it did where it may
pub prompt_memory : (location : HeaderLocation) (slots : AllowedSlots) (image : List ℕ) (message : Message)
    (consumed : Consumed) (n : ℕ)
    → (message ≡ OutOfMemory → MayRunOut (reader_for location) slots image consumed.input)
    → AbortedOpening location slots image message consumed n
prompt_memory location slots image OutOfMemory consumed n ran_out = ran_out refl
prompt_memory location slots image _ consumed n ran_out = tt

-- ---- the volume was not opened

-- a run that opened no volume wrote nothing
unwritten : (message : Message) (n : ℕ) → OpeningMessage message → IsPrefixLen message 0 n
unwritten OutOfMemory n opening = refl
unwritten WriteFailed n opening = absurd opening
unwritten _ n opening = omega arith

module _ (location : HeaderLocation) (slots : AllowedSlots) (image pass : List ℕ) (i s : Option (List ℕ)) where
  abbrev opening : VolumeOpening
  opening = volume_opening_by (reader_for location) slots image pass

  -- the volume was not opened, so whatever the command does with open volumes, the run has its outcome
  pub ends_locked : (fault : VolumeFault)
      → OpeningMatches opening image (Err fault) i
      → (aborts_opening fault ≡ true → is_read_failure fault ≡ false → (count : ℕ) → ConsumedExactly image i count
      → MayRunOut (reader_for location) slots image count)
      → ConsumedUnless (aborts_opening fault) pass s
      opening.secret_consumed
      → EndsLocked location slots image pass (message_for_volume fault) i s
  unfolding volume_outcome_by
  ends_locked fault opens ran_out read on_opened consumes w =
      let says = message_says fault in
      rw (← says.aborted) (by (aborts_opening fault) opens.answer opens.consumed read)
    where
      by : (b : Bool) → (b ≡ false → Err fault ≡ opening.result) → ConsumedUnless b image i opening.consumed
          → ConsumedUnless b pass s opening.secret_consumed
          → MatchBool b (Aborted (PromptCat location slots image) (outcome_after on_opened opening)
          (message_for_volume fault)
          (EffectsOf (ConsumedExactly image i) (ConsumedExactly pass s) (Appended w w)))
          (Completed (outcome_after on_opened opening) (message_for_volume fault)
          (EffectsOf (ConsumedExactly image i) (ConsumedExactly pass s) (Appended w w)))
      by true answer (a, few, consumed) (b, fewer, read) =
          let within = opening_consumed location slots image pass on_opened consumes in
          let says = message_says fault in
          aborted_unwritten a b (unwritten (message_for_volume fault) _ (message_says fault).opening) (
            prompt_memory location slots image (message_for_volume fault) _ 0
                (λ is. ran_out (says.aborted ∙ ap aborts is) (says.read ∙ ap is_run_read_failure is) a consumed),
            prompt_opening location slots image pass (message_for_volume fault) a b few,
          ) (omega (arith, few, within.0))
          (omega (arith, fewer, within.1)) (consumed, refl, read, appended-none w)
      by false answer consumed read = rw (← answer refl) (record
          { as_specified = refl; effects = (consumed, refl, read, appended-none w) })

  -- no volume was found
  pub locked_unfound : (fault : VolumeFault) → FindsNoVolume (reader_for location) slots image i fault → s ≡ Some pass
      → EndsLocked location slots image pass (message_for_volume fault) i s
  locked_unfound fault finds whole =
      ends_locked fault (opens_unfound location slots image pass fault i finds) finds.ran_out
      (by (aborts_opening fault) finds.none)
    where
      by : (b : Bool) → (b ≡ false → volume_by (reader_for location) slots image ≡ Err fault)
          → ConsumedUnless b pass s opening.secret_consumed
      by true none = (0, omega arith, consumed-none pass s whole)
      by false none = rw (opening_is location slots image pass (Err fault) (none refl)) (consumed-none pass s whole)

  -- nor was a key slot tried
  pub early_unfound : (fault : VolumeFault) → FindsNoVolume (reader_for location) slots image i fault
      → (is_err (volume_by (reader_for location) slots image) ≡ true)
      ⊎ (ends_untried (message_for_volume fault) ≡ true)
  early_unfound fault finds = by (aborts_opening fault) refl
    where
      by : (b : Bool) → aborts_opening fault ≡ b → (is_err (volume_by (reader_for location) slots image) ≡ true)
          ⊎ (ends_untried (message_for_volume fault) ≡ true)
      by true is = inr (aborted_untried fault is)
      by false is = inl (rw (finds.none is) refl)

  -- a volume was found
  module _ (volume : FoundVolume) (left : Option (List ℕ)) (found : FoundIn location slots image volume left) where
    there : IsOk (volume_by (reader_for location) slots image)
    there = rw (is_volume location slots image pass volume left found) refl

    -- the key file was not read
    pub locked_unread : i ≡ left → (fault : PassphraseFault) → NoKeyFileRead pass s fault
        → EndsLocked location slots image pass (message_for_volume (Passphrase fault)) i s
    locked_unread same fault stop =
        let ends = opens_unread location slots image pass volume left found s fault stop in
        ends_locked (Passphrase fault) (rw same ends.0) (λ aborted unread count consumption. inr (inr there)) ends.1

    module _ (area' : List ℕ) (result : Result UnlockedVolume VolumeFault)
        (tries : TriesSlots (described volume) area' pass result)
        (consumes : ConsumesMaterial volume area' left i result) where
      -- the key slots were tried under a passphrase that is not too long
      module _ (short : length pass ≤ max_key_file_len) (read : ConsumedExactly pass s (length pass)) where
        opens : OpeningMatches opening image result i
        opens = opens_as location slots image pass volume left found area' i result consumes tries short

        -- none of them opens
        pub locked_tried : (fault : VolumeFault) → result ≡ Err fault
            → EndsLocked location slots image pass (message_for_volume fault) i s
        locked_tried fault is =
            let whole : opening.secret_consumed ≡ length pass =
            ap (λ (o : VolumeOpening). o.secret_consumed)
            (opening_found_is location slots image pass volume left found)
            ∙ (area_within (described volume) image pass short).2 in
            ends_locked fault (rw is at opens) (λ aborted unread count consumption. inr (inr there))
            (rw whole (consumed_all (aborts_opening fault) pass s _ read))

        -- one of them opened
        pub unlocked_tried : (opened : UnlockedVolume) → result ≡ Ok opened
            → Unlocks (unlocking location slots image pass i s) opened.segment (opened_of opened) area'
        unfolding volume_outcome_by
        unlocked_tried opened is =
            let ends = rw is at opens in
            let all = rw is at tries in
            let has : HasSegmentBy (reader_for location) image opened.segment =
            (volume.header, found.header, rw all.1 found.slots.segment) in
            let loaded = loaded_as location slots image pass volume left found area' i result consumes all.0 short in
            record {
              outcome = λ on_opened.
                  ap (outcome_by on_opened opening.consumed
                  opening.secret_consumed) (sym (ends.answer refl))
                  ∙ ap (on_opened opened.segment (opened_of opened)) (sym loaded.0);
              there = there;
              has = has;
              no_further = λ attached. rw loaded.0 (no_further location slots image pass opened.segment attached has);
              prefix = rw loaded.0 loaded.1;
              input_consumed = rw loaded.0 ends.consumed;
              secret_consumed = read;
            }

      -- whether or not the key slots were tried, the count of work is that of trying them, or what it was
      module _ (trial : Trial) (same : i ≡ trial.image.after)
          (counts : CountsTrials volume.order area' pass result trial.work.before trial.work.after)
          (ended : trial.key_file.after.ends ≡ counted true trial.key_file.before.ends) where
        tried : ConsumedExactly image i (unlock_read_len image (described volume))
            → trial.work.after ≡ capped (trial.work.before + work_of volume.order image pass)
            → CountsTried location slots image pass trial
        tried consumed counts = (
          described volume,
          record {
            is_volume = is_volume location slots image pass volume left found;
            key_file = ended;
            material = λ countable. (_, omega arith, rw same at consumed);
          },
          counts,
        )

        pub counts_unopened : (fault : VolumeFault) → result ≡ Err fault → CountsTried location slots image pass trial
            ⊎ (EndsUntried location slots image (message_for_volume fault) trial
            × (trial.work.after ≡ trial.work.before))
        counts_unopened fault is =
            elim (counts_of_trials location slots image pass volume left found area' i result consumes _ _ counts) [
              | inl all ↦ inl (tried all.0 all.1)
              | inr few ↦
                  let untried : is_untried fault ≡ true =
                  ap (has_fault is_untried) (sym is) ∙ few.1 in
                  inr (
                    record {
                      unread = inr (
                        described volume,
                        is_volume location slots image pass volume left found,
                        rw same at few.0,
                      );
                      early = inr ((message_says fault).untried untried);
                    },
                    few.2,
                  )
            ]

        pub counts_opened : (opened : UnlockedVolume) → result ≡ Ok opened
            → CountsTried location slots image pass trial
        counts_opened opened is =
            elim (counts_of_trials location slots image pass volume left found area' i result consumes _ _ counts) [
              | inl all ↦ tried all.0 all.1
              | inr few ↦ absurd (let wrong : false ≡ true = ap (has_fault is_untried) (sym is) ∙ few.1 in cc)
            ]
