use Rattle.std.proofs.Common.{ℕ, ◌+◌, sym, ap, arith, ◌∙◌, option_map, length-drop}
use Rattle.luks2_json.proofs.EncodedLemmas.{len_rest, not_encoded}
use Rattle.luks2_json.proofs.encoded.encoded_len.Goals as goal

pub returns-then-not-begins_with_group : goal.returns-then-not-begins_with_group
returns-then-not-begins_with_group c =
    sym (ap (option_map (λ (n : ℕ). c.groups.before + n)) (not_encoded c.groups.rest.now c.groups-test.true (cc)))
    ∙ c.groups.invariant.0

pub groups-preserved : goal.groups-preserved
groups-preserved c = (
  len_rest c.groups.rest.now c.groups.before c.groups-test.true (cc) ∙ c.groups.invariant.0,
  omega (arith, length-drop 4 c.groups.rest.now),
)
