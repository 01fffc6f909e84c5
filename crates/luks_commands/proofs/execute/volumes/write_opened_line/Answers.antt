use Rattle.luks_io.proofs.ErrorLemmas.{given_error}
use Rattle.luks_commands.proofs.execute.volumes.write_opened_line.Goals as goal

pub returns-in_err-put_all-clause-written : goal.returns-in_err-put_all-clause-written
returns-in_err-put_all-clause-written g c =
    let failed = c.in_err-put_all.ensures.err in
    rw (given_error _ _ c.from_residual-in_err-put_all.ensures.1, ← c.in_ok-line.ensures, ← c.as_bytes.ensures.value)
    (c.in_err-put_all.field-0.0.written, failed.0, failed.1)
