use Rattle.std.proofs.Common.{◌≡◌, ◌∙◌, arith, drop}
use Rattle.std.proofs.lemmas.List.{length-take, take-append-le, take_all}
use Rattle.luks_kdf.proofs.lanes.Sha256Lanes.iterate.Goals as goal

pub slice_bounds-iterate_by-end : goal.slice_bounds-iterate_by-end
slice_bounds-iterate_by-end c = omega (arith, length-take 32 c.args.last.now)

pub slice_bounds-iterate_by-end-then-used-eq1-2 : goal.slice_bounds-iterate_by-end-then-used-eq1-2
slice_bounds-iterate_by-end-then-used-eq1-2 c = omega (arith, length-take 32 c.args.xors.now)

pub iterate_by-requires-clause-last : goal.iterate_by-requires-clause-last
iterate_by-requires-clause-last c = omega (arith, length-take 32 c.args.last.now)

pub iterate_by-requires-clause-xors : goal.iterate_by-requires-clause-xors
iterate_by-requires-clause-xors c = omega (arith, length-take 32 c.args.xors.now)

pub returns-then-used-eq1 : goal.returns-then-used-eq1
returns-then-used-eq1 c = λ j below.
    let first : j ≡ 0 = omega arith in
    let new = c.iterate_by.new.xors in
    let long = length-take 32 c.args.xors.now in
    rw first (take-append-le 32 new (drop 32 c.args.xors.now) (omega (arith, long))
    ∙ (take_all 32 new (omega (arith, long)) ∙ c.iterate_by.ensures))
