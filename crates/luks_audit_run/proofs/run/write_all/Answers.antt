use Rattle.std.proofs.Common.{◌≡◌, ◌∙◌, ◌+◌, ℕ, List, ap, arith, false, length, map, refl, subst, sym, true}
use Rattle.std.proofs.Common.{take}
use Rattle.std.proofs.lemmas.List.{map_more, take-map}
use Rattle.std.proofs.Math.Seq.{take-length}
use Rattle.luks_audit_run.proofs.RunLemmas.{moved_file, runs_more, runs_none}
use Rattle.luks_audit_run.proofs.PlaceLemmas.{on_fault}
use Rattle.luks_audit.specs.declared.image.State.TheVariants.{Clean}
use Rattle.luks_audit_run.specs.Run.{Runs, RunsPartly}
use Rattle.luks_audit_run.specs.Searched.{graver}
use Rattle.luks_audit_run.proofs.run.write_all.Goals as goal

pub returns-in_err-put_head-clause-err : goal.returns-in_err-put_head-clause-err
returns-in_err-put_head-clause-err g c =
    let holds : RunsPartly c.args.policy c.args.scope (g.H.Images.stored c.args.host.now)
    (map (λ file. file.now) c.args.files.now) (g.H.Images.failures c.args.host.now)
    (g.H.Images.failures c.args.host.now) (g.O.Sink.written c.args.out.now) (g.O.Sink.written c.put_head.new.out) =
    (0, Clean, runs_none c.args.policy c.args.scope _ _ _ _ true c.in_err-put_head.ensures.puts) in
    on_fault _ _ holds

pub loop-file-init : goal.loop-file-init
loop-file-init g c = record {
  kept = refl;
  so_far = runs_none c.args.policy c.args.scope (g.H.Images.stored c.args.host.now)
      (g.H.Images.failures c.args.host.now) _ _ false c.in_ok-put_head.ensures.puts;
  writes = c.in_ok-put_head.ensures.writes;
}

pub returns-in_err-shown-clause-err : goal.returns-in_err-shown-clause-err
returns-in_err-shown-clause-err g c =
    let stored = g.H.Images.stored c.args.host.now in
    let one = moved_file c.args.policy c.args.scope _ stored _ _ _ _ _ _ c.loop-file.invariant.kept
    c.in_err-shown.ensures.audits in
    let first = take-map (λ file. file.now) (c.loop-file.file-index + 1) c.args.files.now
    ∙ map_more (λ file. file.now) c.args.files.now c.loop-file.file-index _ c.loop-file-test.true in
    let Q : List (List ℕ) → Type 0 = λ files. Runs c.args.policy c.args.scope stored files
    (g.H.Images.failures c.args.host.now) (g.H.Images.failures c.audit_file.new.host)
    (g.O.Sink.written c.args.out.now) (g.O.Sink.written c.audit_file.new.out)
    (graver c.loop-file.state one.shown) true in
    let holds : RunsPartly c.args.policy c.args.scope stored (map (λ file. file.now) c.args.files.now)
    (g.H.Images.failures c.args.host.now) (g.H.Images.failures c.audit_file.new.host)
    (g.O.Sink.written c.args.out.now) (g.O.Sink.written c.audit_file.new.out) = (
      c.loop-file.file-index + 1,
      _,
      subst Q (sym first) (runs_more c.args.policy c.args.scope stored _ _ _ _ _ _ _ _
          c.loop-file.state _ c.loop-file.invariant.so_far one),
    ) in
    on_fault _ _ holds

pub loop-file-preserved : goal.loop-file-preserved
loop-file-preserved g c =
    let stored = g.H.Images.stored c.args.host.now in
    let kept = c.loop-file.invariant.kept in
    let one = moved_file c.args.policy c.args.scope _ stored _ _ _ _ _ _ kept c.in_ok-shown.ensures.audits in
    let so_far = runs_more c.args.policy c.args.scope stored _ _ _ _ _ _ _ _ c.loop-file.state _
    c.loop-file.invariant.so_far one in
    let Q : List (List ℕ) → Type 0 = λ files. Runs c.args.policy c.args.scope stored files
    (g.H.Images.failures c.args.host.now) (g.H.Images.failures c.audit_file.new.host)
    (g.O.Sink.written c.args.out.now) (g.O.Sink.written c.audit_file.new.out) c.graver-state.result false in
    record {
      kept = c.audit_file.ensures.kept ∙ kept;
      so_far = subst Q
          (sym (map_more (λ file. file.now) c.args.files.now c.loop-file.file-index _ c.loop-file-test.true))
          (rw (sym (c.graver-state.ensures ∙ ap (graver c.loop-file.state) one.shows)) at so_far);
      writes = c.in_ok-shown.ensures.writes ∙ c.loop-file.invariant.writes;
    }

pub returns-clause-ok : goal.returns-clause-ok
returns-clause-ok g c =
    let end : c.loop-file.file-index ≡ length c.args.files.now = omega arith in
    let all = ap (λ n. map (λ file. file.now) (take n c.args.files.now)) end
    ∙ ap (map (λ file. file.now)) (take-length c.args.files.now) in
    let Q : List (List ℕ) → Type 0 = λ files. Runs c.args.policy c.args.scope (g.H.Images.stored c.args.host.now) files
    (g.H.Images.failures c.args.host.now) (g.H.Images.failures c.loop-file.host)
    (g.O.Sink.written c.args.out.now) (g.O.Sink.written c.loop-file.out) c.loop-file.state false in
    subst Q all c.loop-file.invariant.so_far
