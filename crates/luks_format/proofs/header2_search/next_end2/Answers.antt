use Rattle.std.proofs.Common.{◌∙◌, ap, refl, sym}
use Rattle.std.specs.Prelude.{slice_index_or}
use Rattle.luks_format.proofs.Search2Lemmas.{next_more, next_passed, search_found, search_passed}
use Rattle.luks_format.proofs.header2_search.next_end2.Goals as goal

pub found_end-requires : goal.found_end-requires
found_end-requires c = rw c.in-Found.is at c.requires

pub returns-then-bytes-end-clause-next : goal.returns-then-bytes-end-clause-next
returns-then-bytes-end-clause-next c =
    rw c.probe_end-end.ensures.value
    (next_more c.args.bytes.now c.loop-index.index (rw c.loop-index.invariant.at at c.loop-index.invariant.searched) _
    (rw c.offsets-offsets.ensures at c.loop-index-test.true)
    (ap (λ l. slice_index_or l c.loop-index.index 0) c.offsets-offsets.ensures)
    (rw c.probe_end-end.ensures.value at c.if-bytes-end.true))

pub found_end-requires-then-is_valid : goal.found_end-requires-then-is_valid
found_end-requires-then-is_valid c =
    search_found c.args.bytes.now c.loop-index.index (rw c.loop-index.invariant.at at c.loop-index.invariant.searched) _
    (rw c.offsets-offsets.ensures at c.loop-index-test.true)
    (ap (λ l. slice_index_or l c.loop-index.index 0) c.offsets-offsets.ensures)
    (rw c.probe_end-end.ensures.value at c.if-bytes-end.false) (sym c.is_valid.ensures ∙ c.if-is_valid.true)

pub loop-index-preserved : goal.loop-index-preserved
loop-index-preserved c = record {
  searched =
      search_passed c.args.bytes.now c.loop-index.index
      (rw c.loop-index.invariant.at at c.loop-index.invariant.searched) _
      (rw c.offsets-offsets.ensures at c.loop-index-test.true)
      (ap (λ l. slice_index_or l c.loop-index.index 0) c.offsets-offsets.ensures)
      (rw c.probe_end-end.ensures.value at c.if-bytes-end.false) (sym c.is_valid.ensures ∙ c.if-is_valid.false);
  at = refl;
}

pub returns-clause-next : goal.returns-clause-next
returns-clause-next c =
    next_passed c.args.bytes.now c.loop-index.index (rw c.loop-index.invariant.at at c.loop-index.invariant.searched)
    (rw c.offsets-offsets.ensures at c.loop-index-test.false)
