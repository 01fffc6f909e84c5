use Rattle.std.proofs.Common.{rules}
use Rattle.std.proofs.Common.{ap, arith, length, length-drop, subst, sym, take}
use Rattle.std.proofs.lemmas.List.{length-take, with_items_is}
use Rattle.luks_audit_run.proofs.PlaceLemmas.{failed_near, loaded_in, on_fault}
use Rattle.luks_audit_run.specs.Search.{IsIn, SearchModel}
use Rattle.luks_audit_run.proofs.search.Search.load.Goals as goal

pub returns-clause-held : goal.returns-clause-held
returns-clause-held g c image is = search (rules, with_items_is, loaded_in)

pub returns-in_err-count-clause-behind : goal.returns-in_err-count-clause-behind
returns-in_err-count-clause-behind g c image is =
    let inside =
    subst (λ (s : SearchModel). IsIn image s (g.S.Source.to_come c.args.source.now)) (sym c.self.view_is) is
    in
    let buffer = c.self.inside.buffer in
    on_fault _ _
    (failed_near image _ _ inside.rest _ c.self.inside.sector c.in_err-count.field-0.0.got inside.here (omega (
      arith,
      c.in_err-count.ensures.bound,
      ap length c.deref_mut.ensures.value,
      length-drop c.self.inside.start (take c.self.inside.end buffer.items),
      length-take c.self.inside.end buffer.items,
      buffer.ok.0,
      c.self.invariant.0,
      c.self.invariant.1,
    )) (c.in_err-count.ensures.bytes inside.rest inside.left_is))
