-- The error that `?` propagates.
use Rattle.std.proofs.Common.{◌≡◌, ◌∙◌, Result, Err, IsErrAnd, ap}
use Rattle.std.proofs.lemmas.Result.{err_from_is_err_and}

-- if `?` returns an error, it is the one that it propagates
pub given_error : {T E : Type 0} (r : Result T E) (error : E) → IsErrAnd r (λ given. given ≡ error) → r ≡ Err error
given_error r error given = let p = err_from_is_err_and r given in p.1 ∙ ap Err p.2
