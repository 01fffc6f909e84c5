use Rattle.std.proofs.Common.{◌≡◌, ◌∙◌, ap, ap₂, add-one, arith, refl}
use Rattle.luks_kdf.specs.Chains.{chain, chain_xor, hmac_by}
use Rattle.luks_kdf.specs.Bytes.{xor}
use Rattle.luks_kdf.specs.Hash.{hash_of}
use Rattle.luks_kdf.proofs.lanes.xor_more.Goals as goal

pub iterations-init : goal.iterations-init
unfolding chain chain_xor
iterations-init g c = λ inner outer holds_inner holds_outer. (refl, refl)

pub iterations-preserved : goal.iterations-preserved
unfolding chain chain_xor hmac_by xor
iterations-preserved g c = λ inner outer holds_inner holds_outer.
    let so_far = c.iterations.invariant inner outer holds_inner holds_outer in
    let holds = c.absorb.ensures inner (rw c.begin-next.ensures holds_inner) in
    let is_next = c.complete.ensures outer _ holds_outer holds
    ∙ ap (hmac_by (hash_of g.E.Engine.function) inner outer) so_far.0 in
    rw add-one (is_next, c.xor_into.ensures ∙ ap₂ xor so_far.1 is_next)

pub returns : goal.returns
returns g c = λ inner outer holds_inner holds_outer.
    let all : c.iterations.counter ≡ c.args.count = omega arith in
    (c.iterations.invariant inner outer holds_inner holds_outer).1
    ∙ ap (chain_xor (hash_of g.E.Engine.function) inner outer _ _) all
