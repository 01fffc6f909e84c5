use Rattle.std.proofs.Common.{◌≡◌, map, string_bytes, take}
use Rattle.luks2_json.specs.List.{strings_among}
use Rattle.luks2_json.proofs.list.strings_among.Given as goal
use Rattle.serde_json.specs.View.{items_view}

abbrev pub invariant-loop-value : goal.invariant-loop-value
invariant-loop-value l = map string_bytes l.names.items ≡ strings_among (items_view (take l.value-index l.values))
