use Rattle.std.proofs.Common.{◌∙◌, Some, ap, false, inl, refl, sym, true}
use Rattle.luks_io.proofs.EffectLemmas.{consumed-none}
use Rattle.luks_io.proofs.ErrorLemmas.{given_error}
use Rattle.luks_io.specs.Counts.{MemSourceModel}
use Rattle.luks_request.specs.Request.{volume_request}
use Rattle.luks_runs.proofs.RunLemmas.{never_failed}
use Rattle.luks_runs.proofs.OutcomeLemmas.{command_says, message_says}
use Rattle.luks_runs.specs.Run.{is_run_read_failure, result_message}
use Rattle.luks_open.specs.Allowed.{pbkdf2_alone}
use Rattle.luks_open.specs.declared.location.HeaderLocation.TheVariants.{Attached, Detached}
use Rattle.luks_commands.proofs.OpenedRuns.{allows_payload, calls_without_payload}
use Rattle.luks_commands.proofs.OpenedRuns.{cat_locked, counts_forwarded}
use Rattle.luks_commands.proofs.OpenedRuns.{detached_runs_forwarded, loaded_from_none}
use Rattle.luks_commands.proofs.OpenedRuns.{loaded_whole, no_write_unopened}
use Rattle.luks_commands.proofs.OpenedRuns.{none_allowed, none_failed, payload_after}
use Rattle.luks_commands.proofs.OpenedRuns.{runs_forwarded}
use Rattle.luks_commands.proofs.OpenedRuns.{with_key}
use Rattle.luks_commands.proofs.execute.volumes.cat.Goals as goal

pub returns-in_err-unlocked-clause-run : goal.returns-in_err-unlocked-clause-run
returns-in_err-unlocked-clause-run g c =
    rw (given_error _ _ c.from_residual.ensures.1)
    (cat_locked c.args.location (volume_request c.args.args.now) _ _ _ _ _ c.in_err-unlocked.ensures.err)

pub returns-in_err-unlocked-clause-calls : goal.returns-in_err-unlocked-clause-calls
returns-in_err-unlocked-clause-calls g c =
    let stop = c.in_err-unlocked.ensures in
    rw (given_error _ _ c.from_residual.ensures.1)
    (calls_without_payload c.args.location _ _ (none_allowed c.args.location (pbkdf2_alone c.args.args.now.slots) _ _ _)
    (rw (message_says c.in_err-unlocked.field-0.0).read at stop.counts)
    (no_write_unopened _ (message_says c.in_err-unlocked.field-0.0).opening))

pub returns-in_err-unlocked-clause-only : goal.returns-in_err-unlocked-clause-only
returns-in_err-unlocked-clause-only g c =
    rw (given_error _ _ c.from_residual.ensures.1)
    (inl (command_says c.in_err-unlocked.field-0.0 c.in_err-unlocked.ensures.without_argon2))

pub returns-in_err-unlocked-clause-work : goal.returns-in_err-unlocked-clause-work
returns-in_err-unlocked-clause-work g c = rw (given_error _ _ c.from_residual.ensures.1) c.in_err-unlocked.ensures.work

-- ---- the payload is in an image of its own

pub returns-in-Detached-clause-run : goal.returns-in-Detached-clause-run
returns-in-Detached-clause-run g c = rw c.in-Detached.is (λ input is image knows pass has counted.
    let u = rw c.in-Detached.is at (c.in_ok-unlocked.ensures.ok input is pass has) in
    detached_runs_forwarded _ input image pass _ _ _ _ _ u _ _ _ (result_message c.write_plain.result)
    c.write_plain.ensures.only (c.write_plain.ensures.run image counted refl (consumed-none image _ knows)))

pub returns-in-Detached-clause-before_key : goal.returns-in-Detached-clause-before_key
returns-in-Detached-clause-before_key g c without = absurd (with_key _ c.write_plain.ensures.only without)

pub returns-in-Detached-clause-calls : goal.returns-in-Detached-clause-calls
returns-in-Detached-clause-calls g c =
    let unlocked = c.in_ok-unlocked.ensures in
    let forwarded = c.write_plain.ensures in
    rw c.in-Detached.is (record {
      in_payload = true;
      reads = unlocked.counts;
      payload_reads = (
        _,
        allows_payload Detached (pbkdf2_alone c.args.args.now.slots) (result_message c.write_plain.result) _ _ _ _ _ _ _
            forwarded.only (rw c.in-Detached.is at unlocked.ok),
        forwarded.reads,
      );
      out_writes = forwarded.writes;
    })

pub returns-in-Detached-clause-work : goal.returns-in-Detached-clause-work
returns-in-Detached-clause-work g c known is pass has = inl (c.in_ok-unlocked.ensures.work known is pass has)

-- ---- the payload is in the image with the header

pub returns-clause-run : goal.returns-clause-run
returns-clause-run g c = rw c.in-Attached.is (λ input is pass has counted.
    let u = rw c.in-Attached.is at (c.in_ok-unlocked.ensures.ok input is pass has) in
    let forwarded = rw c.as_slice-loaded.ensures.value at (c.write_plain-in-Attached.ensures.run input counted) in
    runs_forwarded _ input pass _ _ _ _ _ u _ _ _ _ (result_message c.write_plain-in-Attached.result)
    c.write_plain-in-Attached.ensures.only (forwarded u.prefix u.input_consumed) (λ n most consumption. consumption))

pub returns-clause-calls : goal.returns-clause-calls
returns-clause-calls g c =
    let unlocked = c.in_ok-unlocked.ensures in
    let segment = c.in_ok-unlocked.unlocked.volume.segment in
    let unended = sym c.has_ended.ensures ∙ c.if-has_ended.false in
    let reads = c.write_plain-in-Attached.ensures.reads in
    rw c.in-Attached.is (record {
      in_payload = false;
      reads = record {
        in_input = true;
        input_reads = (
          _,
          allows_payload Attached (pbkdf2_alone c.args.args.now.slots) (result_message c.write_plain-in-Attached.result)
              _ _ segment _ _ _ _
              c.write_plain-in-Attached.ensures.only (rw c.in-Attached.is at unlocked.ok),
          (reads.0, payload_after _ _ segment _ _ _ (rw unended at unlocked.loaded.reads) reads.1),
        );
        secret_reads = none_failed _ _ _ unlocked.counts.secret_reads;
      };
      payload_reads = refl;
      out_writes = c.write_plain-in-Attached.ensures.writes;
    })

pub returns-clause-work : goal.returns-clause-work
returns-clause-work g c = rw c.in-Attached.is (λ known is pass has.
    let u = rw c.in-Attached.is at (c.in_ok-unlocked.ensures.ok known is pass has) in
    let tried = rw c.in-Attached.is at (c.in_ok-unlocked.ensures.work known is pass has) in
    inl (counts_forwarded _ known pass _ _ _ _ _ _ _ _ (result_message c.write_plain-in-Attached.result) u tried
    (λ counted.
    let forwarded = rw c.as_slice-loaded.ensures.value at (c.write_plain-in-Attached.ensures.run known counted) in
    forwarded u.prefix u.input_consumed)))

-- EOF was hit on the image: its payload is forwarded from memory
pub returns-then-has_ended-clause-run : goal.returns-then-has_ended-clause-run
returns-then-has_ended-clause-run g c = rw c.in-Attached.is (λ input is pass has counted.
    let unlocked = c.in_ok-unlocked.ensures in
    let u = rw c.in-Attached.is at (unlocked.ok input is pass has) in
    let none = unlocked.loaded.emptied (sym c.has_ended.ensures ∙ c.if-has_ended.true) input is in
    let forwarded = rw c.as_slice-loaded.ensures.value at
    (c.write_plain-then-has_ended.ensures.run input counted) in
    let source = ap (λ (m : MemSourceModel). Some m.left) c.new.ensures in
    runs_forwarded _ input pass _ _ _ _ _ u _ _ _ _ (result_message c.write_plain-then-has_ended.result)
    c.write_plain-then-has_ended.ensures.only
    (forwarded u.prefix (rw source (loaded_from_none _ input pass _ _ _ _ _ u none)))
    (λ n most consumption. loaded_whole _ input pass _ _ _ _ _ u none n most consumption.within))

pub returns-then-has_ended-clause-calls : goal.returns-then-has_ended-clause-calls
returns-then-has_ended-clause-calls g c =
    let counts = c.in_ok-unlocked.ensures.counts in
    let unread = never_failed (is_run_read_failure (result_message c.write_plain-then-has_ended.result))
    c.write_plain-then-has_ended.ensures.reads.1.failures in
    rw c.in-Attached.is (calls_without_payload Attached _ (result_message c.write_plain-then-has_ended.result)
    (none_allowed Attached (pbkdf2_alone c.args.args.now.slots) _ _ _) (rw unread counts)
    c.write_plain-then-has_ended.ensures.writes)

pub returns-then-has_ended-clause-work : goal.returns-then-has_ended-clause-work
returns-then-has_ended-clause-work g c known is pass has = inl (c.in_ok-unlocked.ensures.work known is pass has)
