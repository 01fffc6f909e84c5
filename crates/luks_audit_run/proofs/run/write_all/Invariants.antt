use Rattle.std.proofs.Common.{◌≡◌, false, map, take}
use Rattle.luks_audit_run.specs.Run.{Runs}
use Rattle.luks_audit_run.proofs.run.write_all.Given as goal

-- the host has what it had, the lines of the images so far are written, and no write has failed
abbrev pub invariant-loop-file : goal.invariant-loop-file
invariant-loop-file g l = record {
  kept : g.H.Images.stored l.host ≡ g.H.Images.stored l.fn.host;
  so_far : Runs l.policy l.scope (g.H.Images.stored l.fn.host) (map (λ file. file.now) (take l.file-index l.files))
      (g.H.Images.failures l.fn.host) (g.H.Images.failures l.host)
      (g.O.Sink.written l.fn.out) (g.O.Sink.written l.out) l.state false;
  writes : (g.O.Sink.counts l.out).failures ≡ (g.O.Sink.counts l.fn.out).failures;
}
