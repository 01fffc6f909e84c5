use Rattle.luks_io.proofs.ErrorLemmas.{given_error}
use Rattle.luks_runs.proofs.RunLemmas.{runs_with_text, runs_without_header}
use Rattle.luks_runs.proofs.headers.print.Goals as goal

pub returns-in_err-header-clause-run : goal.returns-in_err-header-clause-run
returns-in_err-header-clause-run g c =
    rw (given_error _ _ c.from_residual.ensures.1) (λ known is.
    runs_without_header c.args.location c.args.printout known _ _ _ _ c.in_err-header.field-0.0
    (c.in_err-header.ensures.no_header known is))

pub returns-clause-run : goal.returns-clause-run
returns-clause-run g c known is =
    let read = c.in_ok-header.ensures.consumed known is in
    runs_with_text c.args.location c.args.printout known _ _ _ read.0 read.2 _ _ c.print_text.ensures.run
