use Rattle.std.proofs.Common.{◌≡◌, ◌∙◌, ◌*◌, ◌+◌, ap, arith, length, sym}
use Rattle.luks_kdf.proofs.WordLemmas.{written_next}
use Rattle.luks_kdf.specs.Hash.{digest_len}
use Rattle.luks_kdf.specs.Pbkdf2.{u_of}
use Rattle.luks_kdf.proofs.Pbkdf2Lemmas.{digest_ends, length-first_u}
use Rattle.luks_kdf.proofs.lanes.first_iterations.Goals as goal

pub first-preserved : goal.first-preserved
first-preserved g c = λ pass holds_inner holds_outer i below.
    let h = g.E.Engine.function in
    let size = c.size-size.result in
    let is_size : size ≡ digest_len h = c.size-size.ensures ∙ ap digest_len c.hash.ensures in
    let ends = digest_ends size g.E.Lanes.WIDTH c.first.k c.args.count c.first-test.true c.requires.count in
    let capacity : length c.args.u.now ≡ g.E.Lanes.WIDTH * size = rw is_size c.requires.capacity in
    let so_far = c.first.invariant pass holds_inner holds_outer in
    let first = c.first_iteration.ensures pass holds_inner holds_outer in
    rw (← is_size) (written_next size c.first.k i c.first.u c.first_iteration.new.u _
    (λ k. u_of h pass c.args.salt.now (c.args.number + k) 1) (omega (arith, ends, capacity))
    (ap length first ∙ (length-first_u h pass c.args.salt.now _ ∙ sym is_size)) (rw (← is_size) at so_far) first below)
