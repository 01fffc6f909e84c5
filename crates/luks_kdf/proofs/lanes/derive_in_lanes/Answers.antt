use Rattle.std.proofs.Common.{◌≡◌, ◌∙◌, ℕ, ◌+◌, ◌*◌, ◌<◌, ap, ap₂, length, arith, refl, sym}
use Rattle.luks_kdf.specs.Hash.{digest_len}
use Rattle.luks_kdf.specs.Pbkdf2.{derived_key}
use Rattle.luks_kdf.proofs.BytesLemmas.{cut, cut_step, none_replaced, piece_begins}
use Rattle.luks_kdf.proofs.Pbkdf2Lemmas.{digest_sizes, group_at, group_from, groups_end}
use Rattle.luks_kdf.proofs.Pbkdf2Lemmas.{length-group_at, some_in_group, block_t, length-block_t}
use Rattle.luks_kdf.proofs.lanes.derive_in_lanes.Goals as goal

pub fill-init : goal.fill-init
fill-init g c =
    none_replaced (cut (group_at (block_t g.E.Engine.function c.args.pass.now c.args.salt.now c.args.iterations)
    g.E.Lanes.WIDTH) (c.WIDTH.result * c.size.result) (length c.args.out.now)) (c.WIDTH.result * c.size.result)
    c.args.out.now

pub fill-preserved : goal.fill-preserved
fill-preserved g c =
    let h = g.E.Engine.function in
    let w = g.E.Lanes.WIDTH in
    let pass = c.args.pass.now in
    let salt = c.args.salt.now in
    let iterations = c.args.iterations in
    let t = block_t h pass salt iterations in
    let before = c.args.out.now in
    let group = c.WIDTH.result * c.size.result in
    let start = c.fill.i * group in
    let known = g.met.E.Lanes.known in
    let is_size : c.size.result ≡ digest_len h = c.size.ensures ∙ ap digest_len c.hash.ensures in
    let is_group : group ≡ w * digest_len h = ap₂ ◌*◌ c.WIDTH.ensures is_size in
    let each = length-block_t h pass salt iterations (digest_len h) refl in
    let inside : start < length before =
    piece_begins (length before) group c.div_ceil-count.result c.fill.i (rw is_group (some_in_group h w known))
    c.div_ceil-count.ensures c.fill-test.true in
    let is_number = ap (λ (n : ℕ). n * c.fill.i + 1) c.WIDTH-in-fill.ensures in
    let blocks = c.key_blocks-blocks.ensures in
    let keyed = c.after-keyed.ensures in
    let key = c.derive_group.ensures pass (keyed.inner pass blocks.inner) (keyed.outer pass blocks.outer)
    blocks.inner blocks.outer in
    cut_step (group_at t w) group (λ k. length-group_at t (digest_len h) each w k ∙ sym is_group) before
    c.fill.out c.derive_group.new.out c.fill.i c.min-end.result inside c.fill.auto.out c.fill.invariant
    c.min-end.ensures (λ old. group_from h pass salt iterations w c.fill.i _ _ _ is_number key)

pub returns : goal.returns
unfolding derived_key
returns g c =
    let h = g.E.Engine.function in
    let w = g.E.Lanes.WIDTH in
    let size = digest_len h in
    let group = c.WIDTH.result * c.size.result in
    let count = c.div_ceil-count.result in
    let known = g.met.E.Lanes.known in
    let is_size : c.size.result ≡ size = c.size.ensures ∙ ap digest_len c.hash.ensures in
    let is_group : group ≡ w * size = ap₂ ◌*◌ c.WIDTH.ensures is_size in
    let last : c.fill.i ≡ count = omega arith in
    groups_end (block_t h c.args.pass.now c.args.salt.now c.args.iterations) size
    (length-block_t h c.args.pass.now c.args.salt.now c.args.iterations size refl) c.args.out.now c.fill.out w
    group count c.fill.i (omega (arith, (digest_sizes h).min_len)) (some_in_group h w known) is_group
    c.div_ceil-count.ensures last c.fill.invariant
