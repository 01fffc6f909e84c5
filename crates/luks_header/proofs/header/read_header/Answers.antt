use Rattle.std.proofs.Common.{◌≡◌, ◌∙◌, Err, ap, sym}
use Rattle.luks_io.proofs.EffectLemmas.{reads_more}
use Rattle.luks_io.proofs.ErrorLemmas.{given_error}
use Rattle.luks_header.proofs.LoadingLemmas.{all_itself, first_near, header_read, loading_aborted, more_ended}
use Rattle.luks_header.proofs.LoadingLemmas.{more_first, more_searched, more_short, more_within}
use Rattle.luks_header.proofs.LoadingLemmas.{no_header_read, no_tree}
use Rattle.luks_format.specs.declared.fault.HeaderFault.TheVariants.{Memory}
use Rattle.luks_header.proofs.header.read_header.Goals as goal

pub loop-end-preserved : goal.loop-end-preserved
loop-end-preserved g c =
    let old = c.loop-end.area in
    let new = c.extend_to.new.self in
    let call = c.in_ok-extend_to.ensures in
    let next = c.in-Some.ensures.some in
    let whole = c.in_ok-extend_to.field-0 in
    record {
      within = more_within old new c.in-Some.end whole call.loads c.in-Some.ensures.live next.0 next.1 call.ended;
      short = more_short old new c.in-Some.end whole call.loads c.in-Some.ensures.live next.0 next.1 call.ended;
      start = λ image knows. call.start image (c.loop-end.invariant.start image knows);
      emptied = λ hit image knows.
          let start = c.loop-end.invariant.start image knows in
          let ended =
          more_ended old new c.in-Some.end whole call.loads c.in-Some.ensures.live next.0 next.1 call.ended in
          call.whole (sym ended ∙ hit) start.rest start.behind;
      reads = rw (more_ended old new c.in-Some.end whole call.loads c.in-Some.ensures.live next.0 next.1 call.ended)
          (reads_more _ _ _ _ _ (rw c.in-Some.ensures.live at c.loop-end.invariant.reads) call.reads);
      searched = more_searched old new c.in-Some.end whole call.loads c.in-Some.ensures.live next.0 next.1 call.ended _
          c.missing_end.ensures.searched;
      first = λ live few.
          absurd (more_first old new c.in-Some.end whole call.loads c.in-Some.ensures.live next.0 next.1 call.ended
          next.2 live few);
    }

-- a read failed, or memory ran out
pub returns-in_err-extend_to-clause-no_header : goal.returns-in_err-extend_to-clause-no_header
returns-in_err-extend_to-clause-no_header g c =
    let call = c.in_err-extend_to.ensures in
    let next = c.in-Some.ensures.some in
    let ends = rw c.in-Some.ensures.live at c.loop-end.invariant.reads.ends in
    rw (given_error _ _ c.from_residual.ensures.1) (λ image knows.
    let start = c.loop-end.invariant.start image knows in
    loading_aborted image c.loop-end.area c.extend_to.new.self _ _ c.in-Some.end _ _ c.in_err-extend_to.field-0.0 start
    (call.start image start) call.loads (λ memory. (call.memory (ap Err memory)).0) next.0 next.1
    (λ few. (c.loop-end.invariant.first c.in-Some.ensures.live few).0) (call.reads.ends ∙ ends))

pub returns-in_err-extend_to-clause-memory : goal.returns-in_err-extend_to-clause-memory
returns-in_err-extend_to-clause-memory g c image knows begins stops =
    let next = c.in-Some.ensures.some in
    let start = c.loop-end.invariant.start image knows in
    let few = first_near image c.loop-end.area.bytes _ start begins c.in-Some.end next.0 next.1 in
    let same = c.in_err-extend_to.ensures.memory (let given = given_error _ _ c.from_residual.ensures.1 in cc) in
    same.1 ∙ (c.loop-end.invariant.first c.in-Some.ensures.live few).1

-- all bytes that are read for the header are loaded
pub returns-in_err-header-clause-no_header : goal.returns-in_err-header-clause-no_header
returns-in_err-header-clause-no_header g c =
    let loaded = c.loop-end.invariant in
    let none = rw c.as_slice.ensures.value at c.in_err-header.ensures.none in
    rw (given_error _ _ c.from_residual-in_err-header.ensures.1) (λ image knows.
    no_header_read c.loop-end.area loaded.within loaded.short (c.missing_end.ensures.none c.in_default.is) image _
    (loaded.start image knows) (λ ended. loaded.emptied ended image knows) c.in_err-header.field-0.0 _ _ none
    loaded.reads.ends)

pub returns-in_err-header-clause-memory : goal.returns-in_err-header-clause-memory
returns-in_err-header-clause-memory g c image knows begins stops =
    let loaded = c.loop-end.invariant in
    let fault : c.in_err-header.field-0.0 ≡ Memory =
    (let given = given_error _ _ c.from_residual-in_err-header.ensures.1 in cc) in
    let none = rw (c.as_slice.ensures.value, fault) at c.in_err-header.ensures.none in
    absurd (no_tree c.loop-end.area loaded.within loaded.short (c.missing_end.ensures.none c.in_default.is) image _
    (loaded.start image knows) (λ ended. loaded.emptied ended image knows) none begins)

pub returns-clause-consumed : goal.returns-clause-consumed
returns-clause-consumed g c image knows =
    let loaded = c.loop-end.invariant in
    let read = rw c.as_slice.ensures.value at c.in_ok-header.ensures.ok in
    header_read c.loop-end.area loaded.within loaded.short (c.missing_end.ensures.none c.in_default.is) image _
    (loaded.start image knows) (λ ended. loaded.emptied ended image knows) c.in_ok-header.header read

pub returns-clause-whole_area : goal.returns-clause-whole_area
returns-clause-whole_area g c =
    let loaded = c.loop-end.invariant in
    let all = all_itself c.loop-end.area loaded.within loaded.short (c.missing_end.ensures.none c.in_default.is) in
    sym all.read_len

pub returns-clause-ended : goal.returns-clause-ended
returns-clause-ended g c =
    let loaded = c.loop-end.invariant in
    let all = all_itself c.loop-end.area loaded.within loaded.short (c.missing_end.ensures.none c.in_default.is) in
    (sym all.falls, loaded.emptied)
