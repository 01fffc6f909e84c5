use Rattle.std.proofs.Common.{◌≡◌, ◌<◌, ◌∙◌, arith, length, length-take}
use Rattle.luks_argon2.proofs.HashingLemmas.{one_block_more, one_byte_more}
use Rattle.luks_argon2.proofs.hashing.Hasher.push.Goals as goal

pub returns-then-self-eq-BLOCK_LEN : goal.returns-then-self-eq-BLOCK_LEN
returns-then-self-eq-BLOCK_LEN c = λ n m is small.
    let whole : length c.args.self.now.rest ≡ 128 =
    rw (← c.self.view_is) (omega (arith, length-take c.self.inside.used c.self.inside.block)) in
    c.compress_block.ensures ∙ rw is (one_block_more n m c.args.byte (rw is at whole) small)

pub returns-else-self-eq-BLOCK_LEN : goal.returns-else-self-eq-BLOCK_LEN
returns-else-self-eq-BLOCK_LEN c = λ n m is small.
    let short : length c.args.self.now.rest < 128 =
    rw (← c.self.view_is) (omega (arith, length-take c.self.inside.used c.self.inside.block)) in
    c.append.ensures ∙ rw is (one_byte_more n m c.args.byte (rw is at short))
