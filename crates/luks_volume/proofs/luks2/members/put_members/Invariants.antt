use Rattle.std.proofs.Common.{◌≡◌, drop}
use Rattle.serde_json.specs.View.{members_view}
use Rattle.luks_volume.specs.Members.{with_members}
use Rattle.luks_volume.proofs.luks2.members.put_members.Given as goal

-- the rest of the members completes the object
abbrev pub invariant-members : goal.invariant-members
invariant-members l =
    with_members (drop l.member-index l.members) (members_view l.map.entries)
    ≡ with_members l.members (members_view l.fn.map.entries)
