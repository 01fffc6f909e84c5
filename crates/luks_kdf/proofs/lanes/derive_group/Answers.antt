use Rattle.std.proofs.Common.{◌≡◌, ◌∙◌, ap, length}
use Rattle.luks_kdf.specs.Hash.{digest_len}
use Rattle.luks_kdf.proofs.Pbkdf2Lemmas.{group_of_digests}
use Rattle.luks_kdf.proofs.lanes.derive_group.Goals as goal

pub returns : goal.returns
returns g c = λ pass holds_inner holds_outer is_inner is_outer.
    let h = g.E.Engine.function in
    let is_size : c.size-size.result ≡ digest_len h = c.size-size.ensures ∙ ap digest_len c.hash.ensures in
    c.copy_from_slice.ensures.after
    ∙ group_of_digests h pass c.args.salt.now c.args.number c.args.iterations g.E.Lanes.WIDTH (length c.args.out.now)
    c.div_ceil-count.result c.write_group.new.t (rw is_size at c.div_ceil-count.ensures)
    c.requires.capacity (c.write_group.ensures pass holds_inner holds_outer is_inner is_outer)
