use Rattle.std.proofs.Common.{◌≡◌, ◌∙◌, ◌≤◌, ◌+◌, ◌-◌, ◌*◌, List, ℕ, suc, ap, sym, arith, drop, length, take}
use Rattle.std.proofs.Math.Nat.{mul-le-mul_right}
use Rattle.luks_kdf.specs.Stripes.{AfSplitterModel, stripe_at}
use Rattle.luks_kdf.proofs.StripesLemmas.{splitter_more, splitter_start, length-splitter_block, length-stripe_at}
use Rattle.luks_kdf.proofs.stripes.splitter_after.Goals as goal

-- the slice that the loop reads is the stripe of its number
slice-stripe_at : (len : ℕ) (stripes : List ℕ) (i : ℕ)
    → take (i * len + len - i * len) (drop (i * len) stripes) ≡ stripe_at len stripes i
unfolding stripe_at
slice-stripe_at len stripes i = ap (λ n. take n (drop (i * len) stripes)) (omega arith)

pub stripes-init : goal.stripes-init
stripes-init c =
    splitter_start c.args.hash c.args.len c.args.stripes.now c.new-splitter.result c.new-splitter.ensures.start

pub stripe-requires : goal.stripe-requires
stripe-requires c =
    let there : suc c.stripes.i * c.args.len ≤ length c.args.stripes.now =
    omega (arith, mul-le-mul_right {m = suc c.stripes.i} {n = c.args.count} c.args.len (omega arith)) in
    ap length (slice-stripe_at c.args.len c.args.stripes.now c.stripes.i)
    ∙ (length-stripe_at c.args.len c.args.stripes.now c.stripes.i there
    ∙ sym (ap (λ (splitter : AfSplitterModel). length splitter.block) c.stripes.invariant
    ∙ length-splitter_block c.args.hash c.args.len c.args.stripes.now c.stripes.i (omega arith)))

pub stripes-preserved : goal.stripes-preserved
stripes-preserved c =
    c.stripe.ensures.next ∙ splitter_more c.args.hash c.args.len c.args.stripes.now c.stripes.i c.stripes.splitter _
    c.stripes.invariant (slice-stripe_at c.args.len c.args.stripes.now c.stripes.i)

pub returns-clause-len : goal.returns-clause-len
returns-clause-len c =
    let all : c.stripes.i ≡ c.args.count = omega arith in
    ap (λ (splitter : AfSplitterModel). length splitter.block) c.stripes.invariant
    ∙ length-splitter_block c.args.hash c.args.len c.args.stripes.now c.stripes.i (rw all c.requires.there)
