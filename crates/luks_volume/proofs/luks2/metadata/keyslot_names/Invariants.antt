use Rattle.std.proofs.Common.{◌≡◌, map}
use Rattle.serde_json.specs.View.{view}
use Rattle.luks_volume.specs.Layout2.{names_below}
use Rattle.luks_volume.proofs.luks2.metadata.keyslot_names.Given as goal

-- the numbers so far are listed
abbrev pub invariant-slots : goal.invariant-slots
invariant-slots l = map view l.names.items ≡ names_below l.seal l.number
