use Rattle.std.proofs.Common.{◌≡◌}
use Rattle.serde_json.specs.View.{members_view}
use Rattle.luks_volume.specs.Layout2.{keyslots_below}
use Rattle.luks_volume.proofs.luks2.metadata.keyslots.Given as goal

-- the key slots so far are in the map
abbrev pub invariant-slots : goal.invariant-slots
invariant-slots l = members_view l.map.entries ≡ keyslots_below l.seal l.number-counter
