use Rattle.std.proofs.Common.{◌≡◌, ◌∙◌, false, refl}
use Rattle.luks_io.proofs.ErrorLemmas.{given_error}
use Rattle.luks_runs.specs.HeaderOutcome.{printout_message}
use Rattle.luks_runs.specs.Run.{is_run_write_failure}
use Rattle.luks_runs.specs.RunMessages.{PrintoutMessage}
use Rattle.luks_runs.proofs.RunLemmas.{by_printout, printout_written}
use Rattle.luks_runs.proofs.headers.print_text.Goals as goal

pub returns-in_err-put_all-clause-run : goal.returns-in_err-put_all-clause-run
returns-in_err-put_all-clause-run g c =
    let failed = c.in_err-put_all.ensures.err in
    rw (
      given_error _ _ c.from_residual-in_err-put_all.ensures.1,
      ← c.in_ok-text.ensures.text,
      ← c.as_bytes.ensures.value,
    )
    (c.in_err-put_all.field-0.0.written, failed.0, failed.1)

pub returns-clause-run : goal.returns-clause-run
returns-clause-run g c =
    rw c.in_ok-text.ensures.reported (printout_written c.args.printout c.args.header.now _ _ _
    (c.as_bytes.ensures.value ∙ c.in_ok-text.ensures.text) c.in_ok-put_all.ensures.ok)

pub returns-clause-only : goal.returns-clause-only
returns-clause-only g c =
    rw c.in_ok-text.ensures.reported
    (by_printout PrintoutMessage tt tt tt tt c.args.printout c.args.header.now)

pub returns-clause-writes : goal.returns-clause-writes
returns-clause-writes g c =
    let unfailed : is_run_write_failure (printout_message c.args.printout c.args.header.now) ≡ false =
    by_printout (λ _ message. is_run_write_failure message ≡ false) refl refl refl refl c.args.printout
    c.args.header.now in
    rw (c.in_ok-text.ensures.reported, unfailed) c.in_ok-put_all.ensures.writes
