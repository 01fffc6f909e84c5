-- The outcome of opening a volume, compared with that of `luksCat`.
use Rattle.std.proofs.Common.{◌≡◌, ℕ, List, Result, Ok, Err, ◌∙◌, ap, sym, refl, subst, ◌-◌, length, Bool, true, false}
use Rattle.std.proofs.Common.{Option, arith, take}
use Rattle.std.proofs.lemmas.List.{take-take}
use Rattle.std.specs.Prelude.{IfErr, is_some, nat_lt, if◌then◌else◌}
use Rattle.luks_format.specs.Area.{max_loaded_len}
use Rattle.luks_open.specs.Fault.{aborts_opening}
use Rattle.luks_open.specs.declared.fault.PassphraseFault.{PassphraseFault}
use Rattle.luks_open.specs.declared.fault.PassphraseFault.TheVariants.{TooLong}
use Rattle.luks_open.specs.declared.fault.VolumeFault.{VolumeFault}
use Rattle.luks_open.specs.declared.fault.OpenFault.TheVariants.{Memory}
use Rattle.luks_open.specs.declared.fault.VolumeFault.TheVariants.{Argon2Memory, Passphrase, Slots}
use Rattle.luks_open.specs.declared.opening.Opened.{Opened}
use Rattle.luks_report.specs.Faults.{message_at_end}
use Rattle.luks_report.specs.declared.message.Message.TheVariants.{Done}
use Rattle.luks_open.specs.Allowed.{pbkdf2_alone}
use Rattle.luks_runs.specs.Run.{Outcome}
use Rattle.luks_open.proofs.SameOrderLemmas.{same_opening}
use Rattle.luks_open.specs.Location.{reader_for}
use Rattle.luks_open.specs.declared.location.HeaderLocation.{HeaderLocation}
use Rattle.luks_open.specs.declared.location.HeaderLocation.TheVariants.{Attached, Detached}
use Rattle.luks_runs.proofs.HonestVolumes.{unsealed}
use Rattle.luks_open.proofs.PrefixLemmas.{opening_decided}
use Rattle.luks_runs.proofs.OutcomeLemmas.{message_says}
use Rattle.luks_open.specs.Volume.{CanBeTried, OpeningMatches, VolumeOpening, opened_of}
use Rattle.luks_runs.specs.VolumeOutcome.{OnOpened, OpeningMessage}
use Rattle.luks_runs.specs.VolumeOutcome.{outcome_by, payload_outcome, volume_outcome_by}
use Rattle.luks_open.specs.Volume.{volume_opening_by}
use Rattle.luks_open.specs.declared.unlocked.UnlockedVolume.{UnlockedVolume}
use Rattle.luks_format.specs.declared.segment.Segment.{Segment}
use Rattle.luks_payload.proofs.SectorLemmas.{by_ending}
use Rattle.luks_payload.specs.Plain.{ending_of, ending_of_len, plain_of, sector_len}
use Rattle.luks_payload.specs.declared.fault.PayloadFault.{PayloadFault}
use Rattle.luks_payload.specs.declared.fault.PayloadFault.TheVariants.{CutBeforePayload as VolumeCutBeforePayload}
use Rattle.luks_payload.specs.declared.state.Step.{Step}
use Rattle.luks_payload.specs.declared.state.Step.TheVariants.{End}
use Rattle.luks_access.specs.Opens.{CatsByKey, EndsOpening, HasPlaintext, Opens, OpensVolume, Refuses, RefusesVolume}
use Rattle.luks_access.specs.Opens.{cat_outcome_of}
use Rattle.luks_access.specs.Opens.{allowed_by, opening_with, payload_image_of}
use Rattle.luks_access.specs.declared.options.Options.{Options}

-- ---- the plaintext of an open volume

module _ (options : Options) (header pass : List ℕ) where
  -- what a command does, by how the volume is opened
  outcome_is : (on_opened : OnOpened) (r : Result (Segment × Opened) VolumeFault)
      → (opening_with options header pass).result ≡ r
      → volume_outcome_by (reader_for options.location) on_opened (allowed_by options) header pass
      ≡ outcome_by on_opened (opening_with options header pass).consumed
      (opening_with options header pass).secret_consumed r
  unfolding volume_outcome_by
  outcome_is on_opened r is =
      ap (outcome_by on_opened (opening_with options header pass).consumed
      (opening_with options header pass).secret_consumed) is

  cat_by : (image : List ℕ) (v : UnlockedVolume) → Opens options header pass v
      → HasPlaintext (cat_outcome_of options.location (allowed_by options) header image pass) v
      (payload_image_of options.location header image)
  cat_by image v opens = by options.location (λ on_opened. outcome_is on_opened _ opens)
    where
      by : (location : HeaderLocation) → ((on_opened : OnOpened)
          → volume_outcome_by (reader_for location) on_opened (allowed_by options) header pass
          ≡ on_opened v.segment (opened_of v) (opening_with options header pass).consumed)
          → HasPlaintext (cat_outcome_of location (allowed_by options) header image pass) v
          (payload_image_of location header image)
      by Attached outcome =
          let cat = outcome (payload_outcome Attached header pass) in
          (ap (λ (out : Outcome). out.output) cat, ap (λ (out : Outcome). out.message) cat)
      by Detached outcome =
          let cat = outcome (payload_outcome Detached image pass) in
          (ap (λ (out : Outcome). out.output) cat, ap (λ (out : Outcome). out.message) cat)

-- what `luksCat` writes depends on the volume key alone, not on the key slot that gives it
cat_by_key : (location : HeaderLocation) (v : UnlockedVolume) → CatsByKey location v
unfolding volume_outcome_by
cat_by_key Attached v slots header image pass opened is same =
    let opening = volume_opening_by (reader_for Attached) (pbkdf2_alone slots) header pass in
    let on_opened : OnOpened = payload_outcome Attached header pass in
    let cat : volume_outcome_by (reader_for Attached) on_opened (pbkdf2_alone slots) header pass
    ≡ on_opened v.segment opened opening.consumed =
    ap (outcome_by on_opened opening.consumed opening.secret_consumed) is in (
      ap (λ (out : Outcome). out.output) cat
          ∙ ap (λ (key : List ℕ). plain_of v.segment (v.segment.mode, key) header) same,
      ap (λ (out : Outcome). out.message) cat,
    )
cat_by_key Detached v slots header image pass opened is same =
    let opening = volume_opening_by (reader_for Detached) (pbkdf2_alone slots) header pass in
    let on_opened : OnOpened = payload_outcome Detached image pass in
    let cat : volume_outcome_by (reader_for Detached) on_opened (pbkdf2_alone slots) header pass
    ≡ on_opened v.segment opened opening.consumed =
    ap (outcome_by on_opened opening.consumed opening.secret_consumed) is in (
      ap (λ (out : Outcome). out.output) cat
          ∙ ap (λ (key : List ℕ). plain_of v.segment (v.segment.mode, key) image) same,
      ap (λ (out : Outcome). out.message) cat,
    )

-- if the message at a payload's end is `Done`, the payload is whole
abbrev WholeIfDone : Result Step PayloadFault → Type 0
WholeIfDone r = message_at_end r ≡ Done → r ≡ Ok End

ends_whole : (s : Segment) (image : List ℕ) → WholeIfDone (ending_of s image)
ends_whole s image = by (nat_lt (length image) s.offset)
  where
    by : (b : Bool) → WholeIfDone (if b then Err VolumeCutBeforePayload
        else ending_of_len s.size (sector_len s) (length image - s.offset))
    by true = λ cut. cc
    by false =
        by_ending WholeIfDone (λ _. refl) (λ n torn. cc) (λ n cut. cc) s.size (sector_len s) (length image - s.offset)

-- ---- the statements about a volume that is opened, and about a refusal

volume_opened : (options : Options) (image pass : List ℕ) (v : UnlockedVolume) → Opens options image pass v
    → OpensVolume options image pass v
volume_opened options image pass v opens = record {
  opens = opens;
  as_luks_cat = same_opening (allowed_by options) (reader_for options.location) image pass;
  cats = λ other. cat_by options image pass other v opens;
  cats_by_key = cat_by_key options.location v;
  honest = λ plain attached honest.
      let cat = rw attached at (cat_by options image pass image v opens) in
      let sealed = unsealed (allowed_by options) image pass plain honest in
      (sym cat.0 ∙ sealed.0, ends_whole v.segment image (sym cat.1 ∙ sealed.1));
}

volume_refused : (options : Options) (image pass : List ℕ) (fault : VolumeFault)
    → (aborts_opening fault ≡ false → Refuses options image pass fault)
    → (fault ≡ Slots Memory → CanBeTried (opening_with options image pass).result)
    → ((slot kib : ℕ) → fault ≡ Argon2Memory slot kib
    → (is_some options.argon2 ≡ true) × CanBeTried (opening_with options image pass).result)
    → ((passphrase : PassphraseFault) → fault ≡ Passphrase passphrase → passphrase ≡ TooLong)
    → RefusesVolume options image pass fault
volume_refused options image pass fault refuses memory argon2 only_long = record {
  refuses = refuses;
  as_luks_cat = same_opening (allowed_by options) (reader_for options.location) image pass;
  memory = memory;
  argon2 = argon2;
  only_long = only_long;
  no_honest = λ plain attached never honest.
      let refused = rw attached at
      (outcome_is options image pass (payload_outcome Attached image pass) (Err fault) (refuses never)) in
      let sealed = unsealed (allowed_by options) image pass plain honest in
      let done = sym (ap (λ (out : Outcome). out.message) refused) ∙ sealed.1 in
      subst OpeningMessage done (message_says fault).opening;
}

-- opening a volume ended as specified, or was aborted
pub ends_opening : (options : Options) (image pass : List ℕ) (result : Result UnlockedVolume VolumeFault)
    (left : Option (List ℕ)) → OpeningMatches (opening_with options image pass) image result left
    → IfErr result (λ fault. (passphrase : PassphraseFault) → fault ≡ Passphrase passphrase → passphrase ≡ TooLong)
    → IfErr result (λ fault. (slot kib : ℕ) → fault ≡ Argon2Memory slot kib → is_some options.argon2 ≡ true)
    → EndsOpening options image pass result left
ends_opening options image pass (Ok v) left ends only_long limits = record {
  opens = volume_opened options image pass v (sym (ends.answer refl));
  refuses = tt;
  consumes = ends.consumed;
}
ends_opening options image pass (Err fault) left ends only_long limits = record {
  opens = tt;
  refuses = volume_refused options image pass fault (λ never. sym (ends.answer never)) (λ is. ends.memory (ap Err is))
      (λ slot kib is. (limits slot kib is, ends.argon2 slot kib (ap Err is))) only_long;
  consumes = ends.consumed;
}

-- ---- the first bytes of an image, which decide how it is opened

module _ (options : Options) (image pass : List ℕ) where
  same_at_start : opening_with options (take max_loaded_len image) pass ≡ opening_with options image pass
  same_at_start =
      opening_decided options.location (allowed_by options) (take max_loaded_len image) image pass
      (take-take max_loaded_len max_loaded_len image (omega arith))

  pub opened_at_start : (v : UnlockedVolume) → OpensVolume options (take max_loaded_len image) pass v
      → OpensVolume options image pass v
  opened_at_start v opened =
      volume_opened options image pass v (sym (ap (λ (o : VolumeOpening). o.result) same_at_start) ∙ opened.opens)

  pub refused_at_start : (fault : VolumeFault) → RefusesVolume options (take max_loaded_len image) pass fault
      → RefusesVolume options image pass fault
  refused_at_start fault refused =
      volume_refused options image pass fault
      (λ never. sym (ap (λ (o : VolumeOpening). o.result) same_at_start) ∙ refused.refuses never)
      (λ ran_out. subst (λ (o : VolumeOpening). CanBeTried o.result) same_at_start (refused.memory ran_out))
      (λ slot kib ran_out. let there = refused.argon2 slot kib ran_out in
      (there.0, subst (λ (o : VolumeOpening). CanBeTried o.result) same_at_start there.1))
      refused.only_long
