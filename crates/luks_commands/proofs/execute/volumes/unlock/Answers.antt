use Rattle.std.proofs.Common.{◌∙◌, ◌≤◌, Err, Ok, Some, subst, ap, arith, false, inl, inr, length, refl, true}
use Rattle.luks_open.specs.declared.fault.VolumeFault.TheVariants.{Passphrase}
use Rattle.luks_io.proofs.ErrorLemmas.{given_error}
use Rattle.luks_open.proofs.OpeningLemmas.{counts_given}
use Rattle.luks_open.proofs.ReasonLemmas.{tried_without_argon2}
use Rattle.luks_runs.proofs.OutcomeLemmas.{message_says}
use Rattle.luks_open.proofs.VolumeLemmas.{reads_on, there_is_volume}
use Rattle.luks_open.specs.KeyFile.{max_key_file_len}
use Rattle.luks_open.specs.Volume.{CountsTrials, TriesSlots, described}
use Rattle.luks_open.specs.declared.unlocked.UnlockedVolume.{UnlockedVolume}
use Rattle.luks_open.specs.Allowed.{pbkdf2_alone}
use Rattle.luks_commands.proofs.OpenedRuns.{reads_of_image}
use Rattle.luks_commands.proofs.VolumeRuns.{counts_opened, counts_unopened, early_unfound, locked_tried}
use Rattle.luks_commands.proofs.VolumeRuns.{locked_unfound, locked_unread, unlocked_tried}
use Rattle.luks_open.proofs.CallerLemmas.{All-IsPbkdf2}
use Rattle.luks_open.proofs.StopLemmas.{never_stops}
use Rattle.luks_commands.proofs.execute.volumes.unlock.Goals as goal

-- no key slot needs Argon2
pub try_slots-requires-clause-derives : goal.try_slots-requires-clause-derives
try_slots-requires-clause-derives g c =
    let slots = rw c.pbkdf2_alone.ensures at c.in_ok-volume.ensures.found.slots in
    All-IsPbkdf2 c.in_ok-volume.volume.header (pbkdf2_alone c.args.slots).named (pbkdf2_alone c.args.slots).limits
    c.in_ok-volume.volume.order slots.order c.in_ok-volume.volume.segment slots.segment refl

-- ---- no volume was found

pub returns-in_err-volume-clause-err : goal.returns-in_err-volume-clause-err
returns-in_err-volume-clause-err g c =
    rw (given_error _ _ c.from_residual.ensures.1) (λ known is pass has.
    locked_unfound c.args.location (pbkdf2_alone c.args.slots) known pass _ _ _
    (rw c.pbkdf2_alone.ensures at (c.in_err-volume.ensures.err known is)) has)

pub returns-in_err-volume-clause-work : goal.returns-in_err-volume-clause-work
returns-in_err-volume-clause-work g c =
    rw (given_error _ _ c.from_residual.ensures.1) (λ known is pass has. inr (
      record {
        unread = inl refl;
        early = early_unfound c.args.location (pbkdf2_alone c.args.slots) known pass _ (Some pass) _
            (rw c.pbkdf2_alone.ensures at (c.in_err-volume.ensures.err known is));
      },
      refl,
    ))

pub returns-in_err-volume-clause-without_argon2 : goal.returns-in_err-volume-clause-without_argon2
returns-in_err-volume-clause-without_argon2 g c =
    rw (given_error _ _ c.from_residual.ensures.1) (c.in_err-volume.ensures.without_argon2
    (rw c.pbkdf2_alone.ensures refl))

pub returns-in_err-volume-clause-counts : goal.returns-in_err-volume-clause-counts
returns-in_err-volume-clause-counts g c =
    rw (given_error _ _ c.from_residual.ensures.1) (reads_of_image c.in_err-volume.ensures.reads.1)

-- ---- the key file was not read

pub returns-in_err-passphrase-clause-err : goal.returns-in_err-passphrase-clause-err
returns-in_err-passphrase-clause-err g c =
    rw (given_error _ _ c.from_residual-in_err-passphrase.ensures.1) (λ known is pass has.
    locked_unread c.args.location (pbkdf2_alone c.args.slots) known pass _ _ _ _
    (rw c.pbkdf2_alone.ensures at (c.in_ok-volume.ensures.found.found known is)) refl _
    (c.in_err-passphrase.ensures.err pass has))

pub returns-in_err-passphrase-clause-work : goal.returns-in_err-passphrase-clause-work
returns-in_err-passphrase-clause-work g c =
    rw (given_error _ _ c.from_residual-in_err-passphrase.ensures.1) (λ known is pass has. inr (
      record {
        unread = inl c.in_err-passphrase.ensures.reads.ends;
        early = inr ((message_says (Passphrase c.in_err-passphrase.field-0.0)).untried refl);
      },
      refl,
    ))

pub returns-in_err-passphrase-clause-unneeded : goal.returns-in_err-passphrase-clause-unneeded
returns-in_err-passphrase-clause-unneeded g c known is none =
    absurd (there_is_volume c.args.location _ _ _ _ _ _ known
    (rw c.pbkdf2_alone.ensures at c.in_ok-volume.ensures.found) is none)

pub returns-in_err-passphrase-clause-without_argon2 : goal.returns-in_err-passphrase-clause-without_argon2
returns-in_err-passphrase-clause-without_argon2 g c = rw
    (given_error _ _ c.from_residual-in_err-passphrase.ensures.1) tt

pub returns-in_err-passphrase-clause-counts : goal.returns-in_err-passphrase-clause-counts
returns-in_err-passphrase-clause-counts g c =
    rw (given_error _ _ c.from_residual-in_err-passphrase.ensures.1) (record {
      in_input = false;
      input_reads = (_, c.in_ok-volume.ensures.found.loaded.reads);
      secret_reads = (_, c.in_err-passphrase.ensures.reads);
    })

-- ---- the key slots were tried

pub returns-in_err-opened-clause-err : goal.returns-in_err-opened-clause-err
returns-in_err-opened-clause-err g c =
    rw (given_error _ _ c.from_residual-in_err-opened.ensures.1) (λ known is pass has.
    let whole = c.in_ok-passphrase.ensures.ok pass has in
    let few = c.in_ok-passphrase.ensures.few in
    let short : length pass ≤ max_key_file_len =
    omega (arith, ap length whole.0, c.in_ok-passphrase.passphrase.ok.0, few) in
    let found = rw c.pbkdf2_alone.ensures at (c.in_ok-volume.ensures.found.found known is) in
    locked_tried c.args.location (pbkdf2_alone c.args.slots) known pass _ _ _ _ found _ (Err c.in_err-opened.field-0.0)
    (subst (λ p. TriesSlots (described c.in_ok-volume.volume) c.try_slots.new.volume.area.bytes p
    (Err c.in_err-opened.field-0.0)) (c.deref.ensures.value ∙ whole.0) c.in_err-opened.ensures.tries)
    c.in_err-opened.ensures.run short whole.1 _ refl)

pub returns-in_err-opened-clause-unneeded : goal.returns-in_err-opened-clause-unneeded
returns-in_err-opened-clause-unneeded g c known is none =
    absurd (there_is_volume c.args.location _ _ _ _ _ _ known
    (rw c.pbkdf2_alone.ensures at c.in_ok-volume.ensures.found) is none)

pub returns-in_err-opened-clause-without_argon2 : goal.returns-in_err-opened-clause-without_argon2
returns-in_err-opened-clause-without_argon2 g c =
    let slots = rw c.pbkdf2_alone.ensures at c.in_ok-volume.ensures.found.slots in
    let pbkdf2 = All-IsPbkdf2 c.in_ok-volume.volume.header (pbkdf2_alone c.args.slots).named
    (pbkdf2_alone c.args.slots).limits c.in_ok-volume.volume.order slots.order c.in_ok-volume.volume.segment
    slots.segment refl in
    rw (given_error _ _ c.from_residual-in_err-opened.ensures.1)
    (tried_without_argon2 (pbkdf2_alone c.args.slots) c.in_ok-volume.volume slots refl _ _ c.in_err-opened.field-0.0 _
    (λ slot memory refused. never_stops _ _ _ _ _ _ pbkdf2 refused.stops) c.in_err-opened.ensures.refused
    c.in_err-opened.ensures.tries)

pub returns-in_err-opened-clause-counts : goal.returns-in_err-opened-clause-counts
returns-in_err-opened-clause-counts g c =
    let then = c.in_err-opened.ensures in
    rw (given_error _ _ c.from_residual-in_err-opened.ensures.1) (record {
      in_input = true;
      input_reads = reads_on _ _ then.reads.0 _ _ _ c.in_ok-volume.ensures.found.loaded.reads
          (λ ended. ap g.I.Source.counts (then.ended ended)) then.reads.1;
      secret_reads = (_, c.in_ok-passphrase.ensures.reads);
    })

pub returns-in_err-opened-clause-work : goal.returns-in_err-opened-clause-work
returns-in_err-opened-clause-work g c =
    rw (given_error _ _ c.from_residual-in_err-opened.ensures.1) (λ known is pass has.
    let whole = c.in_ok-passphrase.ensures.ok pass has in
    let found = rw c.pbkdf2_alone.ensures at (c.in_ok-volume.ensures.found.found known is) in
    let slots = rw c.pbkdf2_alone.ensures at c.in_ok-volume.ensures.found.slots in
    let pbkdf2 = All-IsPbkdf2 c.in_ok-volume.volume.header (pbkdf2_alone c.args.slots).named
    (pbkdf2_alone c.args.slots).limits c.in_ok-volume.volume.order slots.order c.in_ok-volume.volume.segment
    slots.segment refl in
    counts_unopened c.args.location (pbkdf2_alone c.args.slots) known pass _ (Some pass) _ _ found _
    (Err c.in_err-opened.field-0.0)
    (subst (λ p. TriesSlots (described c.in_ok-volume.volume) c.try_slots.new.volume.area.bytes p
    (Err c.in_err-opened.field-0.0)) (c.deref.ensures.value ∙ whole.0) c.in_err-opened.ensures.tries)
    c.in_err-opened.ensures.run _ refl
    (rw (c.deref.ensures.value, whole.0) at
    (counts_given {T = UnlockedVolume} (Err c.in_err-opened.field-0.0)
    (CountsTrials c.in_ok-volume.volume.order c.try_slots.new.volume.area.bytes c.deref.result.now
    (Err c.in_err-opened.field-0.0) c.args.work.now c.try_slots.new.work) _
    (λ slot memory refused. never_stops _ _ _ _ _ _ pbkdf2 refused.stops)
    c.in_err-opened.ensures.refused c.in_err-opened.ensures.work)) c.in_ok-passphrase.ensures.reads.ends _ refl)

-- ---- one of them opened

pub returns-clause-ok : goal.returns-clause-ok
returns-clause-ok g c known is pass has =
    let whole = c.in_ok-passphrase.ensures.ok pass has in
    let few = c.in_ok-passphrase.ensures.few in
    let short : length pass ≤ max_key_file_len =
    omega (arith, ap length whole.0, c.in_ok-passphrase.passphrase.ok.0, few) in
    let found = rw c.pbkdf2_alone.ensures at (c.in_ok-volume.ensures.found.found known is) in
    rw c.area_of.ensures (unlocked_tried c.args.location (pbkdf2_alone c.args.slots) known pass _ _ _ _ found _
    (Ok c.in_ok-opened.opened) (rw (c.deref.ensures.value, whole.0) at c.in_ok-opened.ensures.tries)
    c.in_ok-opened.ensures.run short whole.1 _ refl)

pub returns-clause-unneeded : goal.returns-clause-unneeded
returns-clause-unneeded g c known is none =
    absurd (there_is_volume c.args.location _ _ _ _ _ _ known
    (rw c.pbkdf2_alone.ensures at c.in_ok-volume.ensures.found) is none)

pub returns-clause-work : goal.returns-clause-work
returns-clause-work g c known is pass has =
    let whole = c.in_ok-passphrase.ensures.ok pass has in
    let found = rw c.pbkdf2_alone.ensures at (c.in_ok-volume.ensures.found.found known is) in
    counts_opened c.args.location (pbkdf2_alone c.args.slots) known pass _ (Some pass) _ _ found _
    (Ok c.in_ok-opened.opened)
    (rw (c.deref.ensures.value, whole.0) at c.in_ok-opened.ensures.tries)
    c.in_ok-opened.ensures.run _ refl
    (rw (c.deref.ensures.value, whole.0) at c.in_ok-opened.ensures.work) c.in_ok-passphrase.ensures.reads.ends _ refl

pub returns-clause-counts : goal.returns-clause-counts
returns-clause-counts g c =
    let then = c.in_ok-opened.ensures in
    record {
      in_input = true;
      input_reads = reads_on _ _ then.reads.0 _ _ _ c.in_ok-volume.ensures.found.loaded.reads
          (λ ended. ap g.I.Source.counts (then.ended ended)) then.reads.1;
      secret_reads = (_, c.in_ok-passphrase.ensures.reads);
    }
