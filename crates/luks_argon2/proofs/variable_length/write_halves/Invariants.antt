use Rattle.std.proofs.Common.{◌≡◌, ◌*◌, ◌-◌, length, take}
use Rattle.luks_argon2.specs.VariableLength.{halves, v_at}
use Rattle.luks_argon2.proofs.variable_length.write_halves.Given as goal

abbrev pub invariant-halves : goal.invariant-halves
invariant-halves l =
    (length l.out ≡ length l.fn.out) × (l.v ≡ v_at l.fn.first (l.i - 1))
    × (take (32 * l.i) l.out ≡ halves l.fn.first l.i)
