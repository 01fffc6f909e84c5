use Rattle.std.proofs.Common.{◌≡◌, false}
use Rattle.luks2_json.specs.Numbered.{is_number_below}
use Rattle.luks2_json.proofs.numbered.is_number.Given as goal

abbrev pub invariant-loop-number : goal.invariant-loop-number
invariant-loop-number l = is_number_below l.number l.name ≡ false
