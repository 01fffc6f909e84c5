use Rattle.std.proofs.lemmas.Grind.{common_steps}
use Rattle.std.proofs.Common.{arith}
use Rattle.luks2_json.proofs.NumberedLemmas.{lowest_found, lowest_next, lowest_none, none_from_not_some}
use Rattle.luks2_metadata.specs.Digest2.{digest2_for}
use Rattle.luks2_metadata.proofs.luks2_digest.digest_for.Goals as goal

pub loop-digest-init : goal.loop-digest-init
loop-digest-init c = lowest_none _

pub returns-then-is_some : goal.returns-then-is_some
unfolding digest2_for
returns-then-is_some c = grind (arith, common_steps, lowest_found)

pub loop-digest-preserved : goal.loop-digest-preserved
loop-digest-preserved c = grind (arith, common_steps, lowest_next, none_from_not_some)

pub returns : goal.returns
unfolding digest2_for
returns c = grind (arith, common_steps)
