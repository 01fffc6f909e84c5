use Rattle.std.proofs.Common.{arith}
use Rattle.luks_argon2.specs.Vectors.{vector_words}
use Rattle.luks_argon2.proofs.VectorLemmas.{sixteen_words}
use Rattle.luks_argon2.proofs.permutation.load.Goals as goal

pub returns : goal.returns
unfolding vector_words
returns c = sixteen_words c.args.row (omega arith)
