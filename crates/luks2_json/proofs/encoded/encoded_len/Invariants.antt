use Rattle.std.proofs.Common.{◌≡◌, ℕ, ◌+◌, ◌*◌, ◌≤◌, length, option_map}
use Rattle.luks2_json.specs.Member.{encoded_len}
use Rattle.luks2_json.proofs.encoded.encoded_len.Given as goal

abbrev pub invariant-groups : goal.invariant-groups
invariant-groups l =
    (option_map (λ (n : ℕ). l.before + n) (encoded_len l.rest) ≡ encoded_len l.text)
    × (4 * l.before + 3 * length l.rest ≤ 3 * length l.text)

abbrev pub decreases-groups : goal.decreases-groups
decreases-groups l = length l.rest
