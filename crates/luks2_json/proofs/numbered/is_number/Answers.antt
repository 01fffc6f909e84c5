use Rattle.std.proofs.Common.{true, false, sym, arith}
use Rattle.luks2_json.proofs.NumberedLemmas.{none_below, number_next, number_stays}
use Rattle.luks2_json.proofs.numbered.is_number.Goals as goal

pub returns-then-is_name : goal.returns-then-is_name
returns-then-is_name c =
    let here = number_next c.loop-number.number c.args.name.now true c.loop-number.invariant (cc) in
    sym (number_stays _ _ c.args.name.now (omega arith) here)

pub loop-number-init : goal.loop-number-init
loop-number-init c = none_below c.args.name.now

pub loop-number-preserved : goal.loop-number-preserved
loop-number-preserved c = number_next c.loop-number.number c.args.name.now false c.loop-number.invariant (cc)
