use Rattle.std.proofs.Common.{inl}
use Rattle.luks_io.proofs.ErrorLemmas.{given_error}
use Rattle.luks_runs.specs.VolumeOutcome.{slot_outcome}
use Rattle.luks_runs.proofs.OutcomeLemmas.{command_says, message_says}
use Rattle.luks_runs.specs.Run.{result_message}
use Rattle.luks_open.specs.Allowed.{pbkdf2_alone}
use Rattle.luks_commands.specs.Headline.{PromptCat, AbortedOpening}
use Rattle.luks_commands.proofs.OpenedRuns.{no_write_unopened, runs_at, runs_slot, slot_message}
use Rattle.luks_runs.proofs.OutcomeLemmas.{slot_consumes_loaded}
use Rattle.luks_commands.proofs.execute.volumes.test_passphrase.Goals as goal

pub returns-in_err-unlocked-clause-run : goal.returns-in_err-unlocked-clause-run
returns-in_err-unlocked-clause-run g c =
    rw (given_error _ _ c.from_residual.ensures.1) (λ known is pass has.
    runs_at (PromptCat c.args.location (pbkdf2_alone c.args.slots) known)
    (AbortedOpening c.args.location (pbkdf2_alone c.args.slots) known) _ _ _ _
    (λ consumed output is. is.0) (λ consumed output done. done)
    (c.in_err-unlocked.ensures.err known is pass has (slot_outcome pass) (slot_consumes_loaded pass) _))

pub returns-clause-run : goal.returns-clause-run
returns-clause-run g c known is pass has =
    runs_slot c.args.location _ known pass _ _ _ _ _ (c.in_ok-unlocked.ensures.ok known is pass has) _ _
    (result_message c.write_opened_line.result) c.write_opened_line.ensures.written

pub returns-clause-only : goal.returns-clause-only
returns-clause-only g c =
    (slot_message c.in_ok-unlocked.unlocked.volume.slot _ _ (result_message c.write_opened_line.result)
    c.write_opened_line.ensures.written).0

pub returns-clause-reads_first : goal.returns-clause-reads_first
returns-clause-reads_first g c failed =
    let no_read = (slot_message c.in_ok-unlocked.unlocked.volume.slot _ _
    (result_message c.write_opened_line.result) c.write_opened_line.ensures.written).1 in
    absurd (cc (rw failed at no_read))

pub returns-in_err-unlocked-clause-only : goal.returns-in_err-unlocked-clause-only
returns-in_err-unlocked-clause-only g c =
    rw (given_error _ _ c.from_residual.ensures.1)
    (inl (command_says c.in_err-unlocked.field-0.0 c.in_err-unlocked.ensures.without_argon2))

pub returns-in_err-unlocked-clause-counts : goal.returns-in_err-unlocked-clause-counts
returns-in_err-unlocked-clause-counts g c =
    rw (given_error _ _ c.from_residual.ensures.1)
    (rw (message_says c.in_err-unlocked.field-0.0).read at c.in_err-unlocked.ensures.counts)

pub returns-in_err-unlocked-clause-writes : goal.returns-in_err-unlocked-clause-writes
returns-in_err-unlocked-clause-writes g c =
    rw (given_error _ _ c.from_residual.ensures.1) (no_write_unopened _ (message_says _).opening)

pub returns-clause-counts : goal.returns-clause-counts
returns-clause-counts g c =
    let not_read = (slot_message c.in_ok-unlocked.unlocked.volume.slot _ _
    (result_message c.write_opened_line.result) c.write_opened_line.ensures.written).1 in
    rw not_read c.in_ok-unlocked.ensures.counts

pub returns-in_err-unlocked-clause-work : goal.returns-in_err-unlocked-clause-work
returns-in_err-unlocked-clause-work g c = rw (given_error _ _ c.from_residual.ensures.1) c.in_err-unlocked.ensures.work

pub returns-clause-work : goal.returns-clause-work
returns-clause-work g c known is pass has =
    inl (c.in_ok-unlocked.ensures.work known is pass has)
