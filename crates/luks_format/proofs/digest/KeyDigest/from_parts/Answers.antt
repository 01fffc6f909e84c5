use Rattle.std.proofs.lemmas.Grind.{common_steps}
use Rattle.std.proofs.Common.{arith}
use Rattle.std.proofs.Common.{sym}
use Rattle.luks_format.proofs.MadeLemmas.{digest_from-yes, digest_of}
use Rattle.luks_format.proofs.digest.KeyDigest.from_parts.Goals as goal

pub invariant_of-result : goal.invariant_of-result
invariant_of-result c = grind (arith, common_steps)

pub returns : goal.returns
unfolding digest_of
returns c = sym (digest_from-yes c.args.parts _)
