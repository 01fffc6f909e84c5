use Rattle.std.proofs.Common.{◌≡◌, ◌∙◌, List, ℕ, ap₂, arith, drop}
use Rattle.std.proofs.lemmas.List.{length-take, take-append-le, take-take}
use Rattle.sha1.specs.Sha1.{sha1}
use Rattle.luks_kdf.specs.Chains.{chain_xor}
use Rattle.luks_kdf.proofs.lanes.Sha1Lanes.iterate.Goals as goal

pub returns-then-used-eq1 : goal.returns-then-used-eq1
returns-then-used-eq1 c = λ j below.
    let first : j ≡ 0 = omega arith in
    let last = c.args.last.now in
    let xors = c.args.xors.now in
    rw first (take-append-le 20 c.xor_chains.new.xors (drop 20 xors) (omega (arith, length-take 20 xors))
    ∙ (c.xor_chains.ensures 0 (omega arith)
    ∙ ap₂ (λ (u t : List ℕ). chain_xor sha1 c.args.inner.now c.args.outer.now u t c.args.count)
    (take-take 20 20 last (omega arith)) (take-take 20 20 xors (omega arith))))
