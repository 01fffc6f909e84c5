use Rattle.std.proofs.Common.{arith}
use Rattle.std.proofs.lemmas.Result.{err_from_is_err_and}
use Rattle.luks_open.proofs.key_file.read_piece.Goals as goal

pub returns-in_err-got-clause-err : goal.returns-in_err-got-clause-err
returns-in_err-got-clause-err g c =
    let p = err_from_is_err_and c.from_residual-in_err-got.result c.from_residual-in_err-got.ensures.1 in
    rw p.1 (λ known is. (
      c.in_err-got.field-0.0.got,
      omega (arith, c.in_err-got.ensures.bound, c.fill.auto.buf),
      (c.in_err-got.ensures.bytes known is).0,
    ))
