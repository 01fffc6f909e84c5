use Rattle.std.proofs.Common.{◌≡◌}
use Rattle.serde_json.specs.View.{members_view}
use Rattle.luks_audit.specs.Rows2.{any_linear}
use Rattle.luks_audit.proofs.luks2.any_linear.Given as goal

-- no segment so far is linear
abbrev pub invariant-loop-segment : goal.invariant-loop-segment
invariant-loop-segment l =
    any_linear (members_view l.segments.entries) ≡ any_linear (members_view l.segment-iterator)
