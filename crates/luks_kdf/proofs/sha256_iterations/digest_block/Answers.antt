use Rattle.std.proofs.Common.{refl}
use Rattle.luks_kdf.proofs.ChainLemmas.{padded_twice, padded_words256}
use Rattle.luks_kdf.proofs.sha256_iterations.digest_block.Goals as goal

pub returns-clause-twice : goal.returns-clause-twice
returns-clause-twice c = λ j in_lane all. padded_twice j in_lane c.args.d.now all

pub returns-clause-block : goal.returns-clause-block
returns-clause-block c = λ j in_lane. record { long = refl; words = padded_words256 j in_lane c.args.d.now }
