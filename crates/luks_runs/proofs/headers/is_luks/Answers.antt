use Rattle.std.proofs.Common.{refl}
use Rattle.luks_io.proofs.EffectLemmas.{appended-none}
use Rattle.luks_runs.proofs.RunLemmas.{is_luks_refused}
use Rattle.luks_runs.proofs.headers.is_luks.Goals as goal
use Rattle.luks_runs.proofs.headers.is_luks.Goals.{in-Ok, in-Err}

pub returns-clause-run : goal.returns-clause-run
returns-clause-run g c written known is = elim c.match-read_header.branch [
  | in-Ok w ↦ let read = w.in-Ok.ensures.consumed known is in
      rw (w.result-is, read.0)
      (record { as_specified = refl; effects = (read.2, refl, refl, appended-none _) })
  | in-Err w ↦ let stop = w.in-Err.ensures.no_header known is in
      rw (w.result-is, w.refusal_of.ensures) (is_luks_refused known _ _ _ _ w.in-Err.fault stop)
]
