use Rattle.std.proofs.Common.{◌≡◌, ◌∙◌, ◌+◌, ◌-◌, ◌*◌, ◌≤◌, ap, arith, drop, length, take}
use Rattle.std.proofs.Math.Nat.{mul-le-mul_right}
use Rattle.luks_open.proofs.MaterialLemmas.{stripe_absorbed}
use Rattle.luks_open.proofs.material.absorb_stripes.Goals as goal

pub stripes-preserved : goal.stripes-preserved
stripes-preserved c =
    let i = c.stripes.i in
    let len = c.args.len in
    let stripes = c.args.stripes.now in
    let there : (i + 1) * len
    ≤ length stripes = omega (arith, mul-le-mul_right {m = i + 1} {n = c.args.count} len (omega arith)) in
    let is_stripe : take (i * len + len - i * len) (drop (i * len) stripes) ≡ take len (drop (i * len) stripes) =
    ap (λ n. take n (drop (i * len) stripes)) (omega arith) in
    record {
      len = c.stripe.ensures.len ∙ c.stripes.invariant.len;
      absorbed = λ hash before number whole start.
          c.stripe.ensures.next
          ∙ stripe_absorbed hash len before stripes _ number i c.stripes.splitter there whole is_stripe
          (c.stripes.invariant.absorbed hash before number whole start);
    }
