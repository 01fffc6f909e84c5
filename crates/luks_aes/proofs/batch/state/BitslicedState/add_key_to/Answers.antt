use Rattle.std.proofs.Common.{arith}
use Rattle.luks_aes.specs.Field.{◌⊕◌}
use Rattle.luks_aes.proofs.ColumnLemmas.{xor_byte}
use Rattle.luks_aes.proofs.WordLemmas.{group_bytes, in_planes, from_planes}
use Rattle.luks_aes.proofs.batch.state.BitslicedState.add_key_to.Goals as goal

pub returns-clause-here : goal.returns-clause-here
returns-clause-here g c = λ y z holds key.
    let same = key.at c.args.g (omega arith) in
    let (p0, p1, p2, p3, p4, p5, p6, p7) = in_planes y _ _ holds in
    let (k0, k1, k2, k3, k4, k5, k6, k7) = in_planes z _ _ same in
    from_planes (λ r q. y r q ⊕ z r q) _ _
    (record {
      at = λ r q low. xor_byte (y r q) (z r q) ((group_bytes y holds).at r q low) ((group_bytes z same).at r q low);
    }) (
      c.add_key.ensures.plane y z 0 p0 k0,
      c.add_key-2.ensures.plane y z 1 p1 k1,
      c.add_key-3.ensures.plane y z 2 p2 k2,
      c.add_key-4.ensures.plane y z 3 p3 k3,
      c.add_key-5.ensures.plane y z 4 p4 k4,
      c.add_key-6.ensures.plane y z 5 p5 k5,
      c.add_key-7.ensures.plane y z 6 p6 k6,
      c.add_key-8.ensures.plane y z 7 p7 k7,
    )
