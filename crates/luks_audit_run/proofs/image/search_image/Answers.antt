use Rattle.std.proofs.Common.{◌∙◌, None, Some, ap, refl, subst, sym}
use Rattle.std.specs.Prelude.{Err, is_err}
use Rattle.luks_io.specs.Devices.{counted}
use Rattle.luks_format.specs.declared.fault.HeaderFault.{HeaderFault}
use Rattle.luks_audit_run.specs.Search.{SearchModel, reports_failed_read}
use Rattle.luks_audit.specs.Image.{fault_line}
use Rattle.luks_audit.specs.declared.image.State.{State}
use Rattle.luks_audit_run.specs.Run.{Puts}
use Rattle.luks_audit_run.specs.Searched.{graver_of}
use Rattle.luks_audit_run.proofs.PutLemmas.{put_whole}
use Rattle.luks_audit_run.proofs.SearchLemmas.{Searches, searches_abort, searches_end, searches_more, searches_none}
use Rattle.luks_audit_run.proofs.SearchLemmas.{searches_part, searches_unbegun}
use Rattle.luks_audit_run.proofs.image.search_image.Goals as goal

pub returns-in_err-search-clause-audits : goal.returns-in_err-search-clause-audits
returns-in_err-search-clause-audits g c =
    searches_unbegun c.args.policy c.args.file.now _ _ _ c.from_residual.result c.from_residual.ensures.0

pub loop-place-init : goal.loop-place-init
loop-place-init g c =
    let known = g.S.Source.to_come c.args.source.now in
    let before = g.O.Sink.written c.args.out.now in
    let P : SearchModel → Type 0 = λ search.
    Searches c.args.policy c.args.file.now known known before before None search in
    record {
      so_far = subst P (sym c.in_ok-search.ensures) (searches_none c.args.policy c.args.file.now known before);
      failures = refl;
      writes = refl;
    }

pub returns-in_err-shown-in-Ok-Some-clause-audits : goal.returns-in_err-shown-in-Ok-Some-clause-audits
returns-in_err-shown-in-Ok-Some-clause-audits g c =
    let next = rw c.in-Ok-Some.field-0-is at c.in-Ok-Some.ensures.found in
    searches_part c.args.policy c.args.file.now _ _ (g.S.Source.to_come c.next.new.source) _ _ _ c.loop-place.found
    c.loop-place.search c.next.new.self c.loop-place.invariant.so_far c.in-Ok-Some.place _ _ _
    c.from_residual-in_err-shown-in-Ok-Some.ensures.0 next
    (c.in-Ok-Some.ensures.failures ∙ c.loop-place.invariant.failures) c.in_err-shown-in-Ok-Some.ensures.puts

pub loop-place-preserved : goal.loop-place-preserved
loop-place-preserved g c =
    let next = rw c.in-Ok-Some.field-0-is at c.in-Ok-Some.ensures.found in
    let same = c.graver_of.ensures ∙ ap (graver_of c.loop-place.found) c.in_ok-shown-in-Ok-Some.ensures.shows in
    let P : State → Type 0 = λ state. Searches c.args.policy c.args.file.now (g.S.Source.to_come c.args.source.now)
    (g.S.Source.to_come c.next.new.source) (g.O.Sink.written c.args.out.now) (g.O.Sink.written c.put_place.new.out)
    (Some state) c.next.new.self in
    record {
      so_far = subst P (sym same)
          (searches_more c.args.policy c.args.file.now _ _ (g.S.Source.to_come c.next.new.source) _ _ _
          c.loop-place.found c.loop-place.search c.next.new.self c.loop-place.invariant.so_far c.in-Ok-Some.place next
          (put_whole _ _ _ c.in_ok-shown-in-Ok-Some.ensures.puts));
      failures = c.in-Ok-Some.ensures.failures ∙ c.loop-place.invariant.failures;
      writes = c.in_ok-shown-in-Ok-Some.ensures.writes ∙ c.loop-place.invariant.writes;
    }

pub returns-in-Ok-None-clause-audits : goal.returns-in-Ok-None-clause-audits
returns-in-Ok-None-clause-audits g c =
    let next = rw c.in-Ok-None.field-0-is at c.in-Ok-None.ensures.found in
    searches_end c.args.policy c.args.file.now _ _ (g.S.Source.to_come c.next.new.source) _ _ _ c.loop-place.found
    c.loop-place.search c.next.new.self c.loop-place.invariant.so_far _ _ c.end_search.result next
    (c.in-Ok-None.ensures.failures ∙ c.loop-place.invariant.failures) c.end_search.ensures.puts
    c.end_search.ensures.shows

pub returns-in-Err-clause-audits : goal.returns-in-Err-clause-audits
returns-in-Err-clause-audits g c =
    let P : HeaderFault → Type 0 = λ fault. Puts (g.O.Sink.written c.loop-place.out)
    (g.O.Sink.written c.put_fault.new.out) (fault_line c.args.policy.format c.args.file.now fault)
    (is_err c.put_fault.result) in
    searches_abort c.args.policy c.args.file.now _ _ (g.S.Source.to_come c.next.new.source) _ _ _
    c.loop-place.found c.loop-place.search c.next.new.self c.loop-place.invariant.so_far c.in-Err.fault
    c.in-Err.ensures.found c.in-Err.ensures.behind _ _ c.put_fault.result
    (c.in-Err.ensures.failures ∙ ap (counted (reports_failed_read {T = Unit {0}} (Err c.in-Err.fault)))
    c.loop-place.invariant.failures) (subst P c.search_fault-fault.ensures c.put_fault.ensures.puts)
    c.put_fault.ensures.shows
