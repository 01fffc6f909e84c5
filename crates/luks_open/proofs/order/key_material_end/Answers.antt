use Rattle.std.proofs.Common.{◌≡◌, drop, ap, arith}
use Rattle.std.proofs.lemmas.List.{drop_all}
use Rattle.luks_open.specs.Opening.{key_material_end}
use Rattle.luks_open.proofs.CallerLemmas.{key_material_end-drop, key_material_end-within}
use Rattle.luks_open.proofs.order.key_material_end.Goals as goal

pub overflow_add-slot : goal.overflow_add-slot
overflow_add-slot c =
    let next = key_material_end-drop c.entries-entry-items.result.now c.loop-entry.entry-index c.entry-item.result
    c.loop-entry-test.true c.entry-item.is in
    omega (
      arith,
      next,
      c.loop-entry.invariant,
      c.key_material_len.ensures,
      key_material_end-within c.args.order.now.entries,
    )

pub loop-entry-preserved : goal.loop-entry-preserved
loop-entry-preserved c =
    let next = key_material_end-drop c.entries-entry-items.result.now c.loop-entry.entry-index c.entry-item.result
    c.loop-entry-test.true c.entry-item.is in
    omega (arith, next, c.loop-entry.invariant, c.key_material_len.ensures, c.max-end.ensures)

pub returns-clause-value : goal.returns-clause-value
unfolding key_material_end
returns-clause-value c =
    let items = c.entries-entry-items.result.now in
    let none : key_material_end (drop c.loop-entry.entry-index items) ≡ 0 =
    ap key_material_end (drop_all c.loop-entry.entry-index items (omega arith)) in
    omega (arith, c.loop-entry.invariant, none)

pub returns-clause-within : goal.returns-clause-within
returns-clause-within c = omega (arith, returns-clause-value c, key_material_end-within c.args.order.now.entries)
