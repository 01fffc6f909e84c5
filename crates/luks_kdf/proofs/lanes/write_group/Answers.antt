use Rattle.std.proofs.Common.{◌≡◌, ◌-◌, ◌∙◌, List, ℕ, ap, take}
use Rattle.luks_kdf.specs.Chains.{chain_xor, digest_at}
use Rattle.luks_kdf.specs.Hash.{block_len, hash_of, digest_len}
use Rattle.luks_kdf.proofs.Pbkdf2Lemmas.{chain_xor_of_block}
use Rattle.luks_kdf.proofs.lanes.write_group.Goals as goal

pub returns : goal.returns
returns g c = λ pass holds_inner holds_outer is_inner is_outer k below.
    let h = g.E.Engine.function in
    let inner = take (block_len h) c.args.blocks.now.inner in
    let outer = take (block_len h) c.args.blocks.now.outer in
    let is_size : c.block-size.result ≡ block_len h = c.block-size.ensures ∙ ap block_len c.hash.ensures in
    let first = digest_at (digest_len h) k c.first_iterations.new.u in
    chain_xor_of_block h pass c.args.salt.now inner outer first _ _ c.args.iterations is_inner is_outer
    (c.first_iterations.ensures pass holds_inner holds_outer k below) c.requires.iterations
    (rw is_size at (c.iterate.ensures k below)
    ∙ ap (λ (t : List ℕ). chain_xor (hash_of h) inner outer first (digest_at (digest_len h) k t)
    (c.args.iterations - 1)) c.copy_from_slice.ensures.after)
