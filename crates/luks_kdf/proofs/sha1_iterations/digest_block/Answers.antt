use Rattle.std.proofs.Common.{refl}
use Rattle.luks_kdf.proofs.ChainLemmas.{padded_words1}
use Rattle.luks_kdf.proofs.sha1_iterations.digest_block.Goals as goal

pub returns : goal.returns
returns g c = λ j in_lane.
    rw c.sixteen.ensures (record { long = refl; words = padded_words1 g.row.N j in_lane c.args.d.now })
