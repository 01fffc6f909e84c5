use Rattle.std.proofs.lemmas.Grind.{common_steps}
use Rattle.std.proofs.Common.{option_map, sym, ap, arith}
use Rattle.luks_format.proofs.RangeLemmas.{usable_digest}
use Rattle.luks2_metadata.specs.Digest2.{iterations_of_digest}
use Rattle.luks2_metadata.proofs.SlotLemmas.{digest_in_range, not_digest, out_of_range}
use Rattle.luks2_metadata.proofs.luks2_digest.usable_iterations.Goals as goal
use Rattle.serde_json.specs.View.{view}

pub returns-then-not-is_digest : goal.returns-then-not-is_digest
returns-then-not-is_digest c = sym (ap (option_map iterations_of_digest) (not_digest (view c.args.digest.now) (cc)))

pub returns-then-not-usable_digest : goal.returns-then-not-usable_digest
returns-then-not-usable_digest c = grind (arith, common_steps, out_of_range)

pub overflow_cast-result : goal.overflow_cast-result
overflow_cast-result c = grind (arith, common_steps, usable_digest)

pub returns : goal.returns
returns c =
    let is = digest_in_range (view c.args.digest.now) (cc) (cc) in
    cc
