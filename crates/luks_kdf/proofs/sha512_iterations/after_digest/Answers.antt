use Rattle.std.proofs.Common.{◌≡◌, arith}
use Rattle.luks_kdf.specs.Pairs.{after_digest512}
use Rattle.luks_kdf.proofs.sha512_iterations.after_digest.Goals as goal

pub returns-then-this-eq6 : goal.returns-then-this-eq6
unfolding after_digest512
returns-then-this-eq6 g c =
    let six : g.row.WORDS ≡ 6 = omega arith in
    rw six (c.compress.ensures _ c.digest_block384.ensures)

pub returns-else-this-eq6 : goal.returns-else-this-eq6
unfolding after_digest512
returns-else-this-eq6 g c =
    let eight : g.row.WORDS ≡ 8 = omega arith in
    rw eight (c.compress-else-this-eq6.ensures _ c.digest_block512.ensures)
