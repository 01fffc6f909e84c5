use Rattle.std.proofs.Common.{◌≡◌, None}
use Rattle.luks2_json.specs.Numbered.{lowest}
use Rattle.luks2_metadata.specs.Digest2.{own_digest_at}
use Rattle.luks2_metadata.proofs.luks2_digest.digest_iterations_for.Given as goal
use Rattle.serde_json.specs.View.{view}

abbrev pub invariant-loop-digest : goal.invariant-loop-digest
invariant-loop-digest l = lowest (own_digest_at (view l.tree) l.number) l.digest ≡ None
