use Rattle.std.proofs.Common.{◌≡◌, ◌∙◌, length, take, take_all, arith}
use Rattle.luks_io.proofs.ErrorLemmas.{given_error}
use Rattle.luks_runs.proofs.StripeLemmas.{runs_without_key, runs_without_key_read}
use Rattle.luks_runs.proofs.stripes.split.Goals as goal

pub returns-in_err-len-clause-run : goal.returns-in_err-len-clause-run
returns-in_err-len-clause-run g c =
    rw (given_error _ _ c.from_residual.ensures.1) (λ key_bytes is random known.
    runs_without_key_read _ _ key_bytes random _ _ _ _ (c.in_err-len.ensures.bytes key_bytes is).0 known
    (omega (arith, c.in_err-len.ensures.bound)))

pub returns-then-len-eq0-clause-run : goal.returns-then-len-eq0-clause-run
returns-then-len-eq0-clause-run g c key_bytes is random known =
    runs_without_key _ _ key_bytes random _ _ _ _ (c.in_ok-len.ensures.bytes key_bytes is).0 known
    (rw c.fill.auto.buf at (c.in_ok-len.ensures.end key_bytes is)) (grind (arith, c.then-len-eq0.either))

pub returns-clause-run : goal.returns-clause-run
returns-clause-run g c key_bytes is random known =
    let next = c.in_ok-len.ensures.bytes key_bytes is in
    let len = c.in_ok-len.len in
    let whole : len ≡ length key_bytes = omega (arith, c.in_ok-len.ensures.end key_bytes is) in
    let key : take len c.fill.new.buf ≡ key_bytes = next.1 ∙ take_all len key_bytes (omega arith) in
    (rw key at c.split_key.ensures.run) _ (rw whole at next.0) random known
