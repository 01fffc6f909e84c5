use Rattle.std.proofs.Common.{◌≤◌, sym, length, length-take-le, arith}
use Rattle.luks_volume_tests.proofs.tests.payload.sealed.open_area.Goals as goal

pub slice_bounds-merge-end-2 : goal.slice_bounds-merge-end-2
slice_bounds-merge-end-2 c =
    let there : 128 ≤ length c.decrypt.new.area = omega arith in
    sym (length-take-le 128 c.decrypt.new.area there)

pub merge-requires-clause-stripes : goal.merge-requires-clause-stripes
merge-requires-clause-stripes c =
    let there : 128 ≤ length c.decrypt.new.area = omega arith in
    length-take-le 128 c.decrypt.new.area there
