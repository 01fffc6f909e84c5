use Rattle.std.proofs.Common.{◌≡◌, None}
use Rattle.luks2_json.specs.Numbered.{lowest}
use Rattle.luks_audit.specs.Rows2.{key_size_at}
use Rattle.luks_audit.proofs.luks2.volume_key_size.Given as goal
use Rattle.serde_json.specs.View.{view}

-- no slot before this number has a key size
abbrev pub invariant-loop-number : goal.invariant-loop-number
invariant-loop-number l = lowest (key_size_at (view l.tree)) l.number ≡ None
